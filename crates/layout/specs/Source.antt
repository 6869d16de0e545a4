-- What is read: bytes, and how they are encoded. One thing goes through the definitions of reading, so another encoding is another case
-- here and another branch of `body_head` in `Heads.antt`, and nothing between the two changes. Assumes nothing.
--     Encoding          how the headers of a data set are written. Document 01, Layout, 1st point: with a VR (explicit), little end first
--     Source            the bytes of a data set, and their encoding
--     explicitly s      the bytes s, read as document 01 lays a data set out
use Rattle.std.specs.Prelude.{List, ℕ}

pub data Encoding : Type 0 where
  explicit : Encoding

pub record Source : Type 0 where
  pub bytes : List ℕ
  pub encoding : Encoding

abbrev pub explicitly : List ℕ → Source
explicitly s = record { bytes = s; encoding = explicit }
