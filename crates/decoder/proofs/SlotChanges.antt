-- Which slots a reading changes: those of its schema and no others.
use Prim.Native.Nat.{ℕ, suc, ◌+◌, ◌<◌, ◌≤◌}
use mathlib.Core.Path.{◌≡◌, refl, subst, ◌∙◌}
use mathlib.Core.Logic.{◌⊎◌, inl, inr}
use mathlib.Core.Bool.{cond}
use mathlib.Core.List.{List}
use lib.ListN.{length, get_or, set, length-set}
use lib.Seq.{get_or-set_other}
use lib.Dec.{eqb}
use native.Mathlib.Omega.{arith}
use Rattle.laws.proofs.Booleans.{either}
use Rattle.schema.specs.Schema.{Schema, done, number, bytes, map, message, width}
use Rattle.decoder.specs.Fields.{State, set_slot, set_bytes, set_number, add_entry}
use Rattle.schema.specs.Targets.{Target, a_number, some_bytes, an_entry, a_message, unknown, look}
use Rattle.wire_read.specs.Varint.{low_u32}
use Rattle.decoder.proofs.ReadingSteps.{Steps, ends, takes_number, takes_bytes, takes_entry, takes_message}

-- ---- lists that agree but for some places

-- outside the places from lo up to hi
abbrev pub Outside : (lo hi j : ℕ) → Type 0
Outside lo hi j = (j < lo) ⊎ (hi ≤ j)

abbrev pub Only : (lo hi : ℕ) (a b : List ℕ) → Type 0
Only lo hi a b = (j : ℕ) → Outside lo hi j → get_or b j 0 ≡ get_or a j 0

pub only_none : (a : List ℕ) (lo hi : ℕ) → Only lo hi a a
only_none a lo hi j o = refl

pub only_then : (lo hi : ℕ) (a b c : List ℕ) → Only lo hi a b → Only lo hi b c → Only lo hi a c
only_then lo hi a b c p q j o = q j o ∙ p j o

pub only_wider : (lo hi lo' hi' : ℕ) (a b : List ℕ) → lo' ≤ lo → hi ≤ hi' → Only lo hi a b → Only lo' hi' a b
only_wider lo hi lo' hi' a b l h p j (inl o) = p j (inl (omega arith))
only_wider lo hi lo' hi' a b l h p j (inr o) = p j (inr (omega arith))

pub only_set : (a : List ℕ) (i v : ℕ) → Only i (i + 1) a (set a i v)
only_set a i v j (inl o) = get_or-set_other a i j v 0 (λ (e : j ≡ i). omega arith)
only_set a i v j (inr o) = get_or-set_other a i j v 0 (λ (e : j ≡ i). omega arith)

-- ---- the slots of a field
-- from, and up to
abbrev pub low : Target → ℕ
low (a_number slot) = slot
low (some_bytes slot) = slot
low an_entry = 0
low (a_message slot inner) = slot
low unknown = 0

abbrev pub high : Target → ℕ
high (a_number slot) = slot + 1
high (some_bytes slot) = slot + 2
high an_entry = 0
high (a_message slot inner) = slot + 1 + width inner
high unknown = 0

-- a field that has slots has them there
abbrev pub Within : (lo hi : ℕ) → Target → Type 0
Within lo hi (a_number slot) = (lo ≤ slot) × (slot + 1 ≤ hi)
Within lo hi (some_bytes slot) = (lo ≤ slot) × (slot + 2 ≤ hi)
Within lo hi an_entry = Unit {0}
Within lo hi (a_message slot inner) = (lo ≤ slot) × (slot + 1 + width inner ≤ hi)
Within lo hi unknown = Unit {0}

within_wider : (lo hi lo' hi' : ℕ) (t : Target) → lo' ≤ lo → hi ≤ hi' → Within lo hi t → Within lo' hi' t
within_wider lo hi lo' hi' (a_number slot) l h p = (omega arith, omega arith)
within_wider lo hi lo' hi' (some_bytes slot) l h p = (omega arith, omega arith)
within_wider lo hi lo' hi' an_entry l h p = tt
within_wider lo hi lo' hi' (a_message slot inner) l h p = (omega arith, omega arith)
within_wider lo hi lo' hi' unknown l h p = tt

pub look_within : (sch : Schema) (i n : ℕ) → Within i (i + width sch) (look sch i n)
unfolding look width
look_within done i n = tt
look_within (number type m name more) i n =
    either (Within i (i + suc (width more))) (eqb m n) (omega arith, omega arith)
    (within_wider (i + 1) (i + 1 + width more) i (i + suc (width more)) (look more (i + 1) n) (omega arith) (omega arith)
    (look_within more (i + 1) n))
look_within (bytes m name more) i n =
    either (Within i (i + suc (suc (width more)))) (eqb m n) (omega arith, omega arith)
    (within_wider (i + 2) (i + 2 + width more) i (i + suc (suc (width more))) (look more (i + 2) n) (omega arith) (omega arith)
    (look_within more (i + 2) n))
look_within (map m name more) i n = either (Within i (i + width more)) (eqb m n) tt (look_within more i n)
look_within (message m name inner more) i n =
    either (Within i (i + suc (width inner + width more))) (eqb m n) (omega arith, omega arith)
    (within_wider (i + 1 + width inner) (i + 1 + width inner + width more) i (i + suc (width inner + width more))
    (look more (i + 1 + width inner) n)
    (omega arith) (omega arith) (look_within more (i + 1 + width inner) n))

-- ---- one step
pub bytes_only : (slot at size : ℕ) (st : State) → Only slot (slot + 2) st.slots (set_bytes slot at size st).slots
unfolding set_bytes set_slot
bytes_only slot at size st =
    let a = st.slots in
    let start = cond (eqb size 0) 0 at in
    only_then slot (slot + 2) a (set a slot start) (set (set a slot start) (slot + 1) size)
    (only_wider slot (slot + 1) slot (slot + 2) a (set a slot start) (omega arith) (omega arith) (only_set a slot start))
    (only_wider (slot + 1) (slot + 1 + 1) slot (slot + 2) (set a slot start) (set (set a slot start) (slot + 1) size) (omega arith)
    (omega arith)
    (only_set (set a slot start) (slot + 1) size))

pub number_only : (t : Target) (v : ℕ) (st : State) → Only (low t) (high t) st.slots (set_number t v st).slots
unfolding set_number set_slot
number_only (a_number slot) v st = only_set st.slots slot (low_u32 v)
number_only (some_bytes slot) v st = only_none st.slots slot (slot + 2)
number_only an_entry v st = only_none st.slots 0 0
number_only (a_message slot inner) v st = only_none st.slots slot (slot + 1 + width inner)
number_only unknown v st = only_none st.slots 0 0

-- and a number changes no row
pub number_rows : (t : Target) (v : ℕ) (st : State) → (set_number t v st).rows ≡ st.rows
unfolding set_number set_slot
number_rows (a_number slot) v st = refl
number_rows (some_bytes slot) v st = refl
number_rows an_entry v st = refl
number_rows (a_message slot inner) v st = refl
number_rows unknown v st = refl

-- a field's slots are its schema's
pub only_field : (t : Target) (lo hi : ℕ) (a b : List ℕ) → Within lo hi t → Only (low t) (high t) a b → Only lo hi a b
only_field (a_number slot) lo hi a b w p = only_wider slot (slot + 1) lo hi a b w.0 w.1 p
only_field (some_bytes slot) lo hi a b w p = only_wider slot (slot + 2) lo hi a b w.0 w.1 p
only_field an_entry lo hi a b w p = λ j o. p j (inr (omega arith))
only_field (a_message slot inner) lo hi a b w p = only_wider slot (slot + 1 + width inner) lo hi a b w.0 w.1 p
only_field unknown lo hi a b w p = λ j o. p j (inr (omega arith))

-- ---- a reading
module _ (frame : List ℕ) where
  -- the slots from the mark of a message on
  pub message_only : (slot : ℕ) (inner : Schema) (st mid : State)
      → Only (slot + 1) (slot + 1 + width inner) (set_slot slot 1 st).slots mid.slots
      → Only slot (slot + 1 + width inner) st.slots mid.slots
  unfolding set_slot
  message_only slot inner st mid p =
      let hi = slot + 1 + width inner in
      only_then slot hi st.slots (set st.slots slot 1) mid.slots
      (only_wider slot (slot + 1) slot hi st.slots (set st.slots slot 1) (omega arith) (omega arith) (only_set st.slots slot 1))
      (only_wider (slot + 1) hi slot hi (set st.slots slot 1) mid.slots (omega arith) (omega arith) p)

  pub steps_only : (sch : Schema) (i : ℕ) (st to : State) → Steps frame sch i st to → Only i (i + width sch) st.slots to.slots
  unfolding add_entry
  steps_only sch i st to ends = only_none st.slots i (i + width sch)
  steps_only sch i st to (takes_number n v more) =
      let t = look sch i n in
      only_then i (i + width sch) st.slots (set_number t v st).slots to.slots
      (only_field t i (i + width sch) st.slots (set_number t v st).slots (look_within sch i n) (number_only t v st))
      (steps_only sch i (set_number t v st) to more)
  steps_only sch i st to (takes_bytes n slot at size e l more) =
      only_then i (i + width sch) st.slots (set_bytes slot at size st).slots to.slots
      (only_field (some_bytes slot) i (i + width sch) st.slots (set_bytes slot at size st).slots
      (subst (Within i (i + width sch)) e (look_within sch i n))
      (bytes_only slot at size st))
      (steps_only sch i (set_bytes slot at size st) to more)
  steps_only sch i st to (takes_entry n x e few inside more) = steps_only sch i (add_entry frame x st) to more
  steps_only sch i st to (takes_message n slot inner mid e inside more) =
      only_then i (i + width sch) st.slots mid.slots to.slots
      (only_field (a_message slot inner) i (i + width sch) st.slots mid.slots
      (subst (Within i (i + width sch)) e (look_within sch i n))
      (message_only slot inner st mid (steps_only inner (slot + 1) (set_slot slot 1 st) mid inside)))
      (steps_only sch i mid to more)

  -- ---- as many slots as before
  pub number_long : (t : Target) (v : ℕ) (st : State) → length (set_number t v st).slots ≡ length st.slots
  unfolding set_number set_slot
  number_long (a_number slot) v st = length-set st.slots slot (low_u32 v)
  number_long (some_bytes slot) v st = refl
  number_long an_entry v st = refl
  number_long (a_message slot inner) v st = refl
  number_long unknown v st = refl

  pub bytes_long : (slot at size : ℕ) (st : State) → length (set_bytes slot at size st).slots ≡ length st.slots
  unfolding set_bytes set_slot
  bytes_long slot at size st =
      let a = st.slots in
      let start = cond (eqb size 0) 0 at in
      length-set (set a slot start) (slot + 1) size ∙ length-set a slot start

  pub slot_long : (slot v : ℕ) (st : State) → length (set_slot slot v st).slots ≡ length st.slots
  unfolding set_slot
  slot_long slot v st = length-set st.slots slot v

  pub steps_long : (sch : Schema) (i : ℕ) (st to : State) → Steps frame sch i st to → length to.slots ≡ length st.slots
  unfolding add_entry
  steps_long sch i st to ends = refl
  steps_long sch i st to (takes_number n v more) = steps_long sch i (set_number (look sch i n) v st) to more
      ∙ number_long (look sch i n) v st
  steps_long sch i st to (takes_bytes n slot at size e l more) = steps_long sch i (set_bytes slot at size st) to more
      ∙ bytes_long slot at size st
  steps_long sch i st to (takes_entry n x e few inside more) = steps_long sch i (add_entry frame x st) to more
  steps_long sch i st to (takes_message n slot inner mid e inside more) =
      steps_long sch i mid to more ∙ steps_long inner (slot + 1) (set_slot slot 1 st) mid inside ∙ slot_long slot 1 st
