-- `write_varint` meets its contract. `has_room` asks for the bytes that `put_varint` gives, and `put_varint` stores them.
use Prim.Native.Nat.{ℕ, ◌+◌, ◌≤◌}
use mathlib.Core.Path.{◌≡◌, sym, ◌∙◌}
use mathlib.Core.Bool.{Bool, true, false}
use mathlib.Core.List.{List}
use lib.ListN.{length}
use lib.Dec.{leb}
use native.Mathlib.Omega.{arith}
use borrow.Author.Tests.{leb-true, leb-false}
use Rattle.std.specs.Prelude.{Ok, Err}
use Rattle.refusals.specs.Numbers.{output_short}
use Rattle.copying.specs.Stored.{stored}
use Rattle.wire_write.specs.Writing.{put_varint, written_at}
use Rattle.wire_write.proofs.Outputs.{written, full}
use Rattle.wire_write.proofs.write_varint.Goals as goal

module _ (out : List ℕ) (at v n : ℕ) (is-n : n ≡ length (put_varint v)) (b : Bool) (is_b : b ≡ leb (at + n) (length out)) where
  fits : b ≡ true → at + length (put_varint v) ≤ length out
  fits t = omega (arith, leb-true (at + n) (length out) (sym is_b ∙ t))

  stores : b ≡ true → (next : ℕ) → next ≡ at + length (put_varint v) → (out' : List ℕ) → out' ≡ stored out at (put_varint v)
      → (Ok next ≡ written_at out at (put_varint v)) × (out' ≡ stored out at (put_varint v))
  stores t next is-next out' is-out' = (written out at (put_varint v) (fits t) next is-next, is-out')

  refuses : b ≡ false → (Err output_short ≡ written_at out at (put_varint v)) × (out ≡ stored out at (put_varint v))
  refuses t = full out at (put_varint v) (omega (arith, leb-false (at + n) (length out) (sym is_b ∙ t)))

pub put_varint-requires : goal.put_varint-requires
put_varint-requires c =
    fits c.args.out.now _ _ _ c.varint_len.ensures _ c.has_room.ensures c.if-has_room.true

pub returns-then-has_room : goal.returns-then-has_room
returns-then-has_room c =
    stores c.args.out.now _ _ _ c.varint_len.ensures _ c.has_room.ensures c.if-has_room.true _
    c.put_varint.ensures.0 _ c.put_varint.ensures.1

pub returns : goal.returns
returns c =
    refuses c.args.out.now _ _ _ c.varint_len.ensures _ c.has_room.ensures c.if-has_room.false
