-- "The end verdict, asked with state and buffer, is clean (nothing held), short with the count held, or the refusal", in the papers' numbers
use Rattle.std.specs.Prelude.{ℕ}

pub data End : Type 0 where
  Clean : End
  Short : (count : ℕ) → End
  Refused : (code : ℕ) → End
