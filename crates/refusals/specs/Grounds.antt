-- Document 01, "Refusal numbers": "A number is given exactly when its ground holds and none before it in the order does, numbers of later
-- requests too; with no ground the entry does its work." It is said once, here, over any list of grounds. Each entry is a row of four: its
-- grounds in the paper's order, how its answer is read, what a refusal leaves, and its work.
-- Assumes nothing.
use Rattle.std.specs.Prelude.{ℕ, zero, suc, ◌≡◌, ◌⊎◌, ◌↔◌, List, [], ◌∷◌}

-- ---- grounds in an order

-- a refusal number and when it is given
pub record Ground : Type 1 where
  pub number : ℕ
  pub holds : Type 0

abbrev pub ground_of : ℕ → Type 0 → Ground
ground_of number holds = record { number = number; holds = holds }

-- "its ground holds and none before it in the order does". A number may have several grounds, in several places of the order.
abbrev pub First : List Ground → (number : ℕ) → Type 0
First [] number = ⊥
First (g ∷ gs) number = (g.holds × (number ≡ g.number)) ⊎ ((g.holds → ⊥) × First gs number)

-- "with no ground"
abbrev pub None : List Ground → Type 0
None [] = Unit {0}
None (g ∷ gs) = (g.holds → ⊥) × None gs

-- grounds that are looked at only where C holds
abbrev pub under : Type 0 → List Ground → List Ground
under C [] = []
under C (g ∷ gs) = ground_of g.number (C × g.holds) ∷ under C gs

-- words for grounds about lists
abbrev pub Some : {A : Type 0} → (A → Type 0) → List A → Type 0
Some P [] = ⊥
Some P (x ∷ xs) = P x ⊎ Some P xs

abbrev pub Every : {A : Type 0} → (A → Type 0) → List A → Type 0
Every P [] = Unit {0}
Every P (x ∷ xs) = P x × Every P xs

-- ---- entries

-- what an answer says
pub data Verdict : Type 0 where
  refuses : (number : ℕ) → Verdict
  works : Verdict

-- an answer that is a number: "0 or the refusal"
abbrev pub by_number : ℕ → Verdict
by_number zero = works
by_number (suc n) = refuses (suc n)

-- an answer's number: 0 where it does not refuse
abbrev pub number_of : Verdict → ℕ
number_of (refuses n) = n
number_of works = 0

-- An entry, called with some arguments. A is all that the caller has afterwards: the answer, and what was lent.
pub record Entry (A : Type 0) : Type 1 where
  pub grounds : List Ground
  pub says : A → Verdict
  -- what it leaves where it refuses with a number, and where it does its work
  pub refusal : (number : ℕ) → A
  pub work : A

-- an entry that returns a number, "0 or the refusal", as those for C do
abbrev pub numbered : List Ground → Entry ℕ
numbered gs = record { grounds = gs; says = by_number; refusal = λ n. n; work = 0 }

-- the same entry, whose answers are reported in another way, with a number that C has: the grounds and their order stay
abbrev pub retold : {A B : Type 0} → (A → B) → (code : B → ℕ) → Entry A → Entry B
retold f code e = record { grounds = e.grounds; says = λ b. by_number (code b); refusal = λ n. f (e.refusal n); work = f e.work }

-- The entry left a.
pub record Exactly {A : Type 0} (e : Entry A) (a : A) : Type 0 where
  -- "A number is given exactly when its ground holds and none before it in the order does"
  pub given : (n : ℕ) → (e.says a ≡ refuses n) ↔ First e.grounds n
  -- "with no ground the entry does its work"
  pub worked : (e.says a ≡ works) ↔ None e.grounds
  -- and all that is left, by either
  pub refused : (n : ℕ) → First e.grounds n → a ≡ e.refusal n
  pub done : None e.grounds → a ≡ e.work
