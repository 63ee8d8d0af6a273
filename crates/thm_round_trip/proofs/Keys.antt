-- Rows whose keys differ are entered one after the other, and whether they differ is seen from their bytes only.
use Prim.Native.Nat.{ℕ}
use mathlib.Core.Path.{◌≡◌, refl, sym, ap, ap₂, ◌∙◌}
use mathlib.Core.Bool.{Bool, true, false, not, ◌&&◌}
use mathlib.Core.List.{List, [], ◌∷◌, ◌++◌}
use lib.ListN.{length}
use borrow.Author.Tests.{not-true}
use Rattle.laws.proofs.Booleans.{both}
use Rattle.laws.proofs.Tests.{eqb_comm}
use Rattle.decoder.specs.Rows.{Row}
use Rattle.decoder.specs.Fields.{same_bytes, enter}
use Rattle.writer_checks.specs.Grounds.{no_key, keys_differ}
use Rattle.message.specs.Meaning.{Pair, pairs_of}
use Rattle.message.proofs.MeaningLaws.{length_pairs}
use Rattle.thm_round_trip.proofs.Landing.{key_of}

same_comm : (a b : List ℕ) → same_bytes a b ≡ same_bytes b a
unfolding same_bytes
same_comm [] [] = refl
same_comm [] (y ∷ b) = refl
same_comm (x ∷ a) [] = refl
same_comm (x ∷ a) (y ∷ b) = ap₂ (λ (p q : Bool). p && q) (eqb_comm x y) (same_comm a b)

-- ---- entering
module _ (source : List ℕ) where
  -- the key is none of the row's in the middle
  no_key_lem : (key : List ℕ) (a : List Row) (row : Row) (b : List Row) → no_key source key (a ++ (row ∷ b)) ≡ true
      → same_bytes (key_of source row) key ≡ false
  unfolding no_key
  no_key_lem key [] row b h =
      not-true (same_bytes (key_of source row) key) (both (not (same_bytes (key_of source row) key)) (no_key source key b) h).0
  no_key_lem key (x ∷ a) row b h =
      no_key_lem key a row b (both (not (same_bytes (key_of source x) key)) (no_key source key (a ++ (row ∷ b))) h).1

  no_key_first : (key : List ℕ) (a b : List Row) → no_key source key (a ++ b) ≡ true → no_key source key a ≡ true
  unfolding no_key
  no_key_first key [] b h = refl
  no_key_first key (x ∷ a) b h =
      let q = both (not (same_bytes (key_of source x) key)) (no_key source key (a ++ b)) h in
      rw q.0 (no_key_first key a b q.1)

  pub differ_first : (a b : List Row) → keys_differ source (a ++ b) ≡ true → keys_differ source a ≡ true
  unfolding keys_differ
  differ_first [] b h = refl
  differ_first (x ∷ a) b h =
      let q = both (no_key source (key_of source x) (a ++ b)) (keys_differ source (a ++ b)) h in
      rw (no_key_first (key_of source x) a b q.0) (differ_first a b q.1)

  pub enter_new : (rows : List Row) (row : Row) (later : List Row) → keys_differ source (rows ++ (row ∷ later)) ≡ true
      → enter source row rows ≡ rows ++ (row ∷ [])
  unfolding keys_differ enter
  enter_new [] row later h = refl
  enter_new (x ∷ rows) row later h =
      let q = both (no_key source (key_of source x) (rows ++ (row ∷ later))) (keys_differ source (rows ++ (row ∷ later))) h in
      let other : same_bytes (key_of source x) (key_of source row) ≡ false =
      same_comm (key_of source x) (key_of source row) ∙ no_key_lem (key_of source x) rows row later q.0 in
      rw (other, enter_new rows row later q.1)

-- ---- the bytes only
abbrev no_pair : (key : List ℕ) → List Pair → Bool
no_pair key [] = true
no_pair key (p ∷ ps) = not (same_bytes p.key.content key) && no_pair key ps

abbrev apart : List Pair → Bool
apart [] = true
apart (p ∷ ps) = no_pair p.key.content ps && apart ps

no_key_pairs : (source key : List ℕ) (rows : List Row) → no_key source key rows ≡ no_pair key (pairs_of source rows)
unfolding no_key
no_key_pairs source key [] = refl
no_key_pairs source key (row ∷ rows) = rw (no_key_pairs source key rows)

differ_pairs : (source : List ℕ) (rows : List Row) → keys_differ source rows ≡ apart (pairs_of source rows)
unfolding keys_differ
differ_pairs source [] = refl
differ_pairs source (row ∷ rows) = rw (no_key_pairs source (key_of source row) rows, differ_pairs source rows)

module _ (frame source : List ℕ) (a b : List Row) (same : pairs_of frame a ≡ pairs_of source b) where
  pub same_count : length a ≡ length b
  same_count = sym (length_pairs frame a) ∙ ap length same ∙ length_pairs source b

  pub same_differ : keys_differ frame a ≡ keys_differ source b
  same_differ = differ_pairs frame a ∙ ap apart same ∙ sym (differ_pairs source b)
