-- What is known of a content that is not refused: none of the grounds holds
use Prim.Native.Nat.{ℕ, ◌*◌, ◌≤◌}
use mathlib.Core.Path.{◌≡◌}
use mathlib.Core.Bool.{true, ◌&&◌, ◌||◌}
use mathlib.Core.List.{List}
use native.Mathlib.Omega.{arith}
use borrow.Author.Tests.{leb-true}
use lib.Dec.{leb, eqb}
use lib.ListN.{length}
use Rattle.laws.proofs.Booleans.{kept, both}
use Rattle.decoder.specs.Rows.{rows_in}
use Rattle.schema.specs.Kinds.{schema_of}
use Rattle.schema.specs.declared.Kind.{Kind}
use Rattle.writer_checks.specs.Grounds.{max_rows, has_map, rows_ok, spans_within, rows_within, keys_differ, absent_ok, body_ok, content_error}

pub record Accepted (kind : Kind) (slots : List ℕ) (count : ℕ) (source numbers : List ℕ) (body_size : ℕ) : Type 0 where
  pub few : count ≤ max_rows
  pub allowed : has_map kind || eqb count 0 ≡ true
  pub lent : count * 4 ≤ length numbers
  pub spans_within_lem : spans_within (length source) (schema_of kind) 0 slots ≡ true
  pub rows_within_lem : rows_within (length source) (rows_in count numbers) ≡ true
  pub keys_differ_lem : keys_differ source (rows_in count numbers) ≡ true
  pub absent_ok_lem : absent_ok (rows_in count numbers) (schema_of kind) 0 slots ≡ true
  pub body_ok : body_ok kind slots body_size ≡ true

module _ (kind : Kind) (slots : List ℕ) (count : ℕ) (source numbers : List ℕ) (body_size : ℕ) where
  pub accepted : content_error kind slots count source numbers body_size ≡ 0 → Accepted kind slots count source numbers body_size
  unfolding content_error rows_ok
  accepted e =
      let a = kept (leb count max_rows && (has_map kind || eqb count 0) && leb (count * 4) (length numbers)) 18 _ (omega arith) e in
      let b = kept (spans_within (length source) (schema_of kind) 0 slots) 17 _ (omega arith) a.1 in
      let c = kept (rows_within (length source) (rows_in count numbers)) 17 _ (omega arith) b.1 in
      let d = kept (keys_differ source (rows_in count numbers)) 18 _ (omega arith) c.1 in
      let f = kept (absent_ok (rows_in count numbers) (schema_of kind) 0 slots) 18 _ (omega arith) d.1 in
      let g = kept (body_ok kind slots body_size) 15 _ (omega arith) f.1 in
      let p = both (leb count max_rows && (has_map kind || eqb count 0)) (leb (count * 4) (length numbers)) a.0 in
      let q = both (leb count max_rows) (has_map kind || eqb count 0) p.0 in
      record {
        few = leb-true _ _ q.0;
        allowed = q.1;
        lent = leb-true _ _ p.1;
        spans_within_lem = b.0;
        rows_within_lem = c.0;
        keys_differ_lem = d.0;
        absent_ok_lem = f.0;
        body_ok = g.0;
      }
