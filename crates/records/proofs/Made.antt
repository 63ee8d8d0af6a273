-- The record that is made of a kind, an id, a version, slots and a row count has them
use Prim.Native.Nat.{ℕ}
use mathlib.Core.Path.{◌≡◌, refl}
use mathlib.Core.List.{List}
use Rattle.schema.specs.declared.Kind.{Kind}
use Rattle.schema.specs.declared.Kind.TheVariants as kinds
use Rattle.records.specs.Records.{record_of}
use Rattle.records.specs.Content.{kind_of, record_id, record_version, row_count}

module _ (id version : ℕ) (slots : List ℕ) (rows : ℕ) where
  made : (k : Kind) → (kind_of (record_of k id version slots rows) ≡ k) × (record_id (record_of k id version slots rows) ≡ id)
      × (record_version (record_of k id version slots rows) ≡ version) × (row_count (record_of k id version slots rows) ≡ rows)
  unfolding record_of kind_of record_id record_version row_count
  made kinds.Request = (refl, refl, refl, refl)
  made kinds.Response = (refl, refl, refl, refl)
  made kinds.Init = (refl, refl, refl, refl)
  made kinds.Data = (refl, refl, refl, refl)
  made kinds.Feedback = (refl, refl, refl, refl)
  made kinds.Close = (refl, refl, refl, refl)

  pub kind_is : (k : Kind) → kind_of (record_of k id version slots rows) ≡ k
  kind_is k = (made k).0

  pub id_is : (k : Kind) → record_id (record_of k id version slots rows) ≡ id
  id_is k = (made k).1

  pub version_is : (k : Kind) → record_version (record_of k id version slots rows) ≡ version
  version_is k = (made k).2

  pub count_is : (k : Kind) → row_count (record_of k id version slots rows) ≡ rows
  count_is k = (made k).3
