-- What the search's answers are, what its loop keeps, and how a turn of it goes. No contract cites this file. Assumes nothing.
--     search_of-refused    a refusal of the search is one of 5 to 10, with an offset within the data set
--     ahead got w r        the answer where `got` was found so far and r is what the rest of the level is
--     Seeking              the loop's invariant: the answer at the start is the answer from here, and what is known lies within the data set
use mathlib.Core.Path.{◌≡◌, refl, sym, ap, ◌∙◌}
use mathlib.Core.Bool.{Bool, true, false}
use mathlib.Core.List.{List}
use Rattle.std.specs.Prelude.{Option, None, Some, Result as Answer, Ok, Err}
use Prim.Native.Nat.{ℕ, suc, ◌+◌, ◌-◌, ◌≤◌, ◌<◌}
use native.Mathlib.Omega.{arith}
use lib.Dec.{eqb, ltb}
use lib.ListN.{length}
use Rattle.basis.specs.Choice.{pick, fork}
use Rattle.basis.specs.Bytes.{part}
use Rattle.basis.proofs.ChoiceLaws.{pick-case}
use Rattle.refusals.specs.Refusals.{too_long, too_deep, number}
use Rattle.refusals.specs.declared.Refusal.{Refusal}
use Rattle.refusals.specs.declared.Fault.{Fault}
use Rattle.vr.specs.Names.{SQ}
use Rattle.layout.specs.Limits.{deepest, longest}
use Rattle.layout.specs.Source.{Source, explicitly}
use Rattle.layout.specs.Tree.{Field, value, items, Elements, nil, elem, Items, Place}
use Rattle.layout.specs.Heads.{element_head}
use Rattle.layout.specs.Read.{Result, good, fault, with, after, placed, elements_at, items_at, read, shape_of}
use Rattle.layout.specs.Walks.{Inside, Stays, container, WalkedItems}
use Rattle.layout.specs.declared.Head.{Head}
use Rattle.layout.specs.declared.Head.TheVariants.{End, Plain, Seq}
use Rattle.layout.proofs.Fuel.{Run, run-start, run-turn, run-stop}
use Rattle.layout.proofs.ReadLaws.{at-bad, at-end, at-plain, at-seq}
use Rattle.layout.proofs.MadeLaws.{read-fault}
use Rattle.view.specs.Search.{find, sought_at, sought_in, search_of, SoughtFits}
use Rattle.view.specs.Met.{met_of}
use Rattle.view.specs.declared.Attribute.{Attribute}

-- ---- search_of

abbrev Told : ℕ → Answer (Option Attribute) Fault → Type 0
Told n (Ok a) = Unit {0}
Told n (Err f) = (too_long ≤ number f.refusal) × (number f.refusal ≤ too_deep) × (f.offset ≤ n)

told-sought_in : (x : Source) (tag : ℕ) (r : Result (Elements Place)) → read deepest x ≡ r → Told (length x.bytes) (sought_in r tag)
told-sought_in x tag (good es past) e = tt
told-sought_in x tag (fault r offset) e = let f = read-fault deepest x r offset e in (omega (arith, f.0), f.1, f.2)

told-search : (x : Source) (tag : ℕ) → Told (length x.bytes) (search_of x tag)
unfolding search_of
told-search x tag =
    pick-case (Told (length x.bytes)) (ltb longest (length x.bytes)) _ _
    (λ _. (omega arith, omega arith, omega arith)) (λ _. told-sought_in x tag (read deepest x) refl)

pub search_of-refused : (x : Source) (tag : ℕ) (f : Fault) → search_of x tag ≡ Err f
    → (too_long ≤ number f.refusal) × (number f.refusal ≤ too_deep) × (f.offset ≤ length x.bytes)
search_of-refused x tag f e = rw e at (told-search x tag)

-- ---- the answer from a place on

abbrev first : Option Attribute → Option Attribute → Option Attribute
first (Some a) x = Some a
first None x = x

abbrev pub ahead : Option Attribute → ℕ → Result (Elements Place) → Answer (Option Attribute) Fault
ahead got w (good es past) = Ok (first got (sought_at (find w es)))
ahead got w (fault r offset) = Err (record { refusal = r; offset = offset })

-- nothing is known at the start
ahead-start : (w : ℕ) (r : Result (Elements Place)) → ahead None w r ≡ sought_in r w
ahead-start w (good es past) = refl
ahead-start w (fault r offset) = refl

first-nil : (got : Option Attribute) → first got None ≡ got
first-nil (Some a) = refl
first-nil None = refl

ahead-end : (got : Option Attribute) (w past : ℕ) → ahead got w (good nil past) ≡ Ok got
unfolding find
ahead-end got w past = ap Ok (first-nil got)

abbrev pub attribute : ℕ → ℕ → ℕ → Attribute
attribute vr body past = record { vr = vr; body = body; past = past }

-- an element is passed
ahead-with : (got : Option Attribute) (w tag vr at body past : ℕ) (f : Field Place) (r : Result (Elements Place))
    → ahead got w (with (elem (placed at body past) tag vr f) r) ≡ ahead (met_of got tag w (attribute vr body past)) w r
unfolding find
ahead-with (Some a) w tag vr at body past f (good es p) = refl
ahead-with None w tag vr at body past f (good es p) = step (eqb tag w)
  where
    step : (b : Bool) → ◌≡◌ {A = Answer (Option Attribute) Fault} (Ok (sought_at (fork b (λ _. Some (vr, placed at body past)) (λ _. find w es))))
        (Ok (first (pick b (Some (attribute vr body past)) None) (sought_at (find w es))))
    step true = refl
    step false = refl
ahead-with got w tag vr at body past f (fault r offset) = refl

-- a sequence is passed, or has a fault
ahead-after : (got : Option Attribute) (w tag at body past : ℕ) (q : Result (Items Place)) (rest : ℕ → Result (Elements Place)) → Ok past ≡ shape_of q
    → ahead got w (after q (λ is p. with (elem (placed at body p) tag SQ (items is)) (rest p))) ≡ ahead (met_of got tag w (attribute SQ body past)) w (rest past)
ahead-after got w tag at body past (good is p) rest e =
    let i : past ≡ p = cc in rw i (ahead-with got w tag SQ at body p (items is) (rest p))
ahead-after got w tag at body past (fault r offset) rest e = absurd (let z : ◌≡◌ {A = ℕ} 0 1 = cc in omega arith)

ahead-fault : (got : Option Attribute) (w : ℕ) (x : Fault) (q : Result (Items Place)) (f : Items Place → ℕ → Result (Elements Place)) → Err x ≡ shape_of q
    → ahead got w (after q f) ≡ Err x
ahead-fault got w x (good is p) f e = absurd (let z : ◌≡◌ {A = ℕ} 0 1 = cc in omega arith)
ahead-fault got w x (fault r p) f e = ap Err cc

-- what is known stays within the data set
pub met-fits : (n : ℕ) (got : Option Attribute) (tag w vr body past : ℕ) → SoughtFits n (Ok got) → body ≤ past → past ≤ n
    → SoughtFits n (Ok (met_of got tag w (attribute vr body past)))
met-fits n (Some a) tag w vr body past f h k = f
met-fits n None tag w vr body past f h k = step (eqb tag w)
  where
    step : (b : Bool) → SoughtFits n (Ok (pick b (Some (attribute vr body past)) None))
    step true = (h, k)
    step false = tt

-- ---- the loop: its state is the place, the least tag that may stand there, and what is known

abbrev answers : List ℕ → ℕ → ℕ → ℕ × ℕ × Option Attribute → Answer (Option Attribute) Fault
answers s w k x = ahead x.2 w (elements_at k (explicitly s) x.0 (length s) false deepest x.1)

pub record Seeking (s : List ℕ) (w at low : ℕ) (got : Option Attribute) : Type 0 where
  pub le : at ≤ length s
  pub fits : SoughtFits (length s) (Ok got)
  pub run : Run (answers s w) (λ x. length s - x.0) (0, 0, None) (at, low, got)

-- what the walk ends with is the answer
ended : (s : List ℕ) (w : ℕ) (r : Answer (Option Attribute) Fault)
    → ((k : ℕ) → length s - 0 < k → r ≡ ahead None w (elements_at k (explicitly s) 0 (length s) false deepest 0))
    → r ≡ sought_in (read deepest (explicitly s)) w
unfolding read
ended s w r f = f (suc (length s)) (omega arith) ∙ ahead-start w (read deepest (explicitly s))

module _ {s : List ℕ} {w : ℕ} where
  pub start : Seeking s w 0 0 None
  start = record { le = omega arith; fits = tt; run = run-start }

  module _ {at low : ℕ} {got : Option Attribute} (g : Seeking s w at low got) {h : Answer Head Refusal} (is : h ≡ element_head (explicitly s) at (length s) false low)
      (inside : Inside at (length s) h) where
    pub stop-bad : (f : Fault) → h ≡ Err f.refusal → f.offset ≡ at → (Err f ≡ sought_in (read deepest (explicitly s)) w) × SoughtFits (length s) (Err f)
    stop-bad f e place = (
      ended s w (Err f) (run-stop g.run (Err f) (λ j _. ap (ahead got w) (at-bad (explicitly s) at (length s) false deepest low j f.refusal (sym e ∙ is))
          ∙ ap (λ o. Err (record { refusal = f.refusal; offset = o })) (sym place))),
      tt,
    )

    pub stop-end : (p : ℕ) → h ≡ Ok (End p) → (Ok got ≡ sought_in (read deepest (explicitly s)) w) × SoughtFits (length s) (Ok got)
    stop-end p e =
        (ended s w (Ok got) (run-stop g.run (Ok got) (λ j _. ap (ahead got w) (at-end (explicitly s) at (length s) false deepest low j p (sym e ∙ is)) ∙ ahead-end got w p)), g.fits)

    pub go-plain : (tag vr body p : ℕ) → h ≡ Ok (Plain tag vr body p) → {r : Option Attribute} → r ≡ met_of got tag w (attribute vr body p) → Seeking s w p (tag + 1) r
    go-plain tag vr body p e {r} m = let i : Inside at (length s) (Ok (Plain tag vr body p)) = rw e at inside in rw m (record {
      le = omega arith;
      fits = met-fits (length s) got tag w vr body p g.fits i.1 i.2;
      run = run-turn g.run (p, tag + 1, met_of got tag w (attribute vr body p)) (omega arith) (λ j _. ap (ahead got w) (at-plain (explicitly s) at (length s) false deepest low j tag vr body p (sym e ∙ is))
          ∙ ahead-with got w tag vr at body p (value (part s body p)) (elements_at j (explicitly s) p (length s) false deepest (tag + 1)));
    })

    module _ {tag body last : ℕ} {m : Bool} (e : h ≡ Ok (Seq tag body last m)) {q : Answer ℕ Fault} (walked : WalkedItems (explicitly s) (container body last m deepest) q) where
      pub stop-seq : (f : Fault) → q ≡ Err f → (Err f ≡ sought_in (read deepest (explicitly s)) w) × SoughtFits (length s) (Err f)
      stop-seq f eq = let i : Inside at (length s) (Ok (Seq tag body last m)) = rw e at inside in (
        ended s w (Err f) (run-stop g.run (Err f) (λ j lt. ap (ahead got w) (at-seq (explicitly s) at (length s) false deepest low j tag body last m (sym e ∙ is))
            ∙ ahead-fault got w f (items_at j (explicitly s) body last m deepest) _ (sym eq ∙ walked.shape j (omega arith)))),
        tt,
      )

      pub go-seq : (p : ℕ) → q ≡ Ok p → {r : Option Attribute} → r ≡ met_of got tag w (attribute SQ body p) → Seeking s w p (tag + 1) r
      go-seq p eq {r} k = let i : Inside at (length s) (Ok (Seq tag body last m)) = rw e at inside in
          let st : Stays body last (Ok p) = rw eq at walked.stays in rw k (record {
            le = omega arith;
            fits = met-fits (length s) got tag w SQ body p g.fits st.0 (omega arith);
            run = run-turn g.run (p, tag + 1, met_of got tag w (attribute SQ body p)) (omega arith) (λ j lt. ap (ahead got w) (at-seq (explicitly s) at (length s) false deepest low j tag body last m (sym e ∙ is))
                ∙ ahead-after got w tag at body p (items_at j (explicitly s) body last m deepest) (λ q. elements_at j (explicitly s) q (length s) false deepest (tag + 1)) (sym eq ∙ walked.shape j (omega arith)));
          })
