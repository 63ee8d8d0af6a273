-- What the private functions of `is_utf8` say of a character that is begun, by the grammar.
use Rattle.std.specs.Prelude.{ℕ, Bool, false, cond, List, Option, Some, None, leb}
use Rattle.utf8.specs.declared.Begun.{Begun}
use Rattle.utf8.specs.Grammar.{follows, tailed}

-- how many bytes follow a first byte, where a character begins with it
abbrev pub first : ℕ → Option ℕ
first b = cond (leb (follows b) 3) (Some (follows b)) None

-- the bytes end a character that is begun, and go on as characters; nothing ends what may not come
abbrev pub goes_on : Option Begun → List ℕ → Bool
goes_on None s = false
goes_on (Some b) s = tailed s b.need b.lo b.hi
