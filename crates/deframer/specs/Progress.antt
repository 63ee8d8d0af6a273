-- "The answer is one of three: a whole frame with its size, more is needed, or a refusal", in the papers' numbers
use Rattle.std.specs.Prelude.{ℕ}

pub data Progress : Type 0 where
  Frame : (size : ℕ) → Progress
  NeedMore : Progress
  Refused : (code : ℕ) → Progress
