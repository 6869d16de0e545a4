-- What an export tells its caller, the function of crate `abi` that it calls tells too. So the demands for the C function, which crate
-- `promises` states over the contracts of `abi`, hold of what C links; an export with a weaker clause is refused here. Assumes nothing.
--     deidentify-told, view-told, action-told     the three exports
use mathlib.Core.List.{List}
use Prim.Native.Nat.{ℕ}
use lib.IntN.{ℤ}
use contract.Lifetimes.{Lfts}
use denote.Ref.{Bor, MutBor}
use Rattle.abi.proofs.corravisk_deidentify.Reads as deidentify
use Rattle.abi.proofs.corravisk_view.Reads as view
use Rattle.abi.proofs.corravisk_action.Reads as action
use Rattle.abi_c.proofs.corravisk_deidentify.Reads as exported-deidentify
use Rattle.abi_c.proofs.corravisk_view.Reads as exported-view
use Rattle.abi_c.proofs.corravisk_action.Reads as exported-action

pub deidentify-told : (κs : Lfts 6) (lent root study site : Bor (List ℕ)) (options used : ℕ) (shift : ℤ) (l l' o o' n n' : MutBor (List ℕ))
    → exported-deidentify.Learnt κs (lent, (options, (shift, (root, (study, (site, (l, (used, (o, (n, tt))))))))))
    tt (lent, (options, (shift, (root, (study, (site, (l', (used, (o', (n', tt))))))))))
    → deidentify.Learnt κs (lent, (options, (shift, (root, (study, (site, (l, (used, (o, (n, tt))))))))))
    tt (lent, (options, (shift, (root, (study, (site, (l', (used, (o', (n', tt))))))))))
deidentify-told κs lent root study site options used shift l l' o o' n n' told = told

pub view-told : (κs : Lfts 2) (lent : Bor (List ℕ)) (tag : ℕ) (n n' : MutBor (List ℕ))
    → exported-view.Learnt κs (lent, (tag, (n, tt))) tt (lent, (tag, (n', tt)))
    → view.Learnt κs (lent, (tag, (n, tt))) tt (lent, (tag, (n', tt)))
view-told κs lent tag n n' told = told

pub action-told : (κs : Lfts 1) (options top tag vr : ℕ) (n n' : MutBor (List ℕ))
    → exported-action.Learnt κs (options, (top, (tag, (vr, (n, tt))))) tt (options, (top, (tag, (vr, (n', tt)))))
    → action.Learnt κs (options, (top, (tag, (vr, (n, tt))))) tt (options, (top, (tag, (vr, (n', tt)))))
action-told κs options top tag vr n n' told = told
