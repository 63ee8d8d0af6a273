-- At each return the rules before it were kept and its own was broken, by what the tests' contracts say.
-- a data type that is not 0 and not above 1
use Prim.Native.Nat.{ℕ, ◌<◌, ◌≤◌}
use mathlib.Core.Path.{◌≡◌, sym, ap}
use native.Mathlib.Omega.{arith}
use borrow.Author.Tests.{le-leb, lt-leb}
use Rattle.laws.proofs.Tests.{fails, holds}
use Rattle.fixed_header.specs.Header.{data_type_ok, stream_type_ok}
use Rattle.fixed_header.proofs.header.check_types.Goals as goal

one : (data_type stream_type : ℕ) → (data_type ≡ 0 → ⊥) → data_type ≤ 1 → stream_type_ok 1 stream_type ≡ stream_type_ok data_type stream_type
one data_type stream_type n h =
    let is : data_type ≡ 1 = omega arith in
    ap (λ (d : ℕ). stream_type_ok d stream_type) (sym is)

pub returns-then-not-magic_ok : goal.returns-then-not-magic_ok
returns-then-not-magic_ok c = rw (fails c.magic_ok.ensures c.if-not-magic_ok.true-raw)

pub returns-then-data_type-eq0 : goal.returns-then-data_type-eq0
unfolding data_type_ok stream_type_ok
returns-then-data_type-eq0 c =
    rw (holds c.magic_ok.ensures c.if-not-magic_ok.false-raw, c.if-data_type-eq0.true)

pub returns-then-data_type-gt1 : goal.returns-then-data_type-gt1
unfolding data_type_ok
returns-then-data_type-gt1 c =
    let over : 1 < c.args.data_type = omega arith in
    rw (holds c.magic_ok.ensures c.if-not-magic_ok.false-raw, lt-leb _ _ over)

pub returns-then-not-stream_type_ok : goal.returns-then-not-stream_type_ok
unfolding data_type_ok
returns-then-not-stream_type_ok c =
    let magic = holds c.magic_ok.ensures c.if-not-magic_ok.false-raw in
    let within : c.args.data_type ≤ 1 = omega arith in
    let type_is = one c.args.data_type c.args.stream_type c.if-data_type-eq0.false within in
    rw (magic, le-leb _ _ within, ← type_is, fails c.stream_type_ok.ensures c.if-not-stream_type_ok.true-raw)

pub returns : goal.returns
unfolding data_type_ok
returns c =
    let magic = holds c.magic_ok.ensures c.if-not-magic_ok.false-raw in
    let within : c.args.data_type ≤ 1 = omega arith in
    let type_is = one c.args.data_type c.args.stream_type c.if-data_type-eq0.false within in
    rw (magic, le-leb _ _ within, ← type_is, holds c.stream_type_ok.ensures c.if-not-stream_type_ok.false-raw)
