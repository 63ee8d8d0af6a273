-- A record says what its slots say by its schema, the record that was given and the one that is made of slots that were read
use Prim.Native.Nat.{ℕ}
use mathlib.Core.Path.{◌≡◌, refl, sym, ap, ◌∙◌}
use mathlib.Core.Bool.{Bool, true, false, not}
use mathlib.Core.List.{List}
use lib.Dec.{eqb}
use lib.ListN.{get_or}
use Rattle.wire_write.proofs.ReadBack.{signed_bits}
use Rattle.schema.specs.Schema.{width}
use Rattle.schema.specs.Kinds.{schema_of}
use Rattle.records.specs.Records.{record_of, attachment_size_of}
use Rattle.decoder.specs.Rows.{rows_in}
use Rattle.schema.specs.declared.Kind.{Kind}
use Rattle.schema.specs.declared.Kind.TheVariants as kinds
use Rattle.records.specs.declared.Record.{Record}
use Rattle.records.specs.declared.Record.TheVariants.{Request, Response, Init, Data, Feedback, Close}
use Rattle.std.specs.Prelude.{Ok}
use Rattle.records.specs.Content.{kind_of, record_id, record_version, row_count, mark, slots_of}
use Rattle.message.specs.Meaning.{Said, unsigned, signed, present, text, fields_of, pairs_of, says, answer_meaning}
use Rattle.thm_round_trip.specs.InRange.{InRange}
use Rattle.thm_round_trip.proofs.Said.{said_in}

-- a mark is what its slot says
mark_said : (b : Bool) → not (eqb (mark b) 0) ≡ b
mark_said true = refl
mark_said false = refl

pub record_said : (source : List ℕ) (r : Record) → InRange (fields_of source r)
    → said_in source (schema_of (kind_of r)) 0 (slots_of r) ≡ fields_of source r
unfolding said_in fields_of slots_of kind_of width
record_said source (Request r) h = refl
record_said source (Response r) h = rw (signed_bits r.ret h.1.1.1.0, signed_bits r.func_ret h.1.1.1.1.0)
record_said source (Init r) h =
    rw (mark_said r.request_meta.present, mark_said r.response_meta.present, signed_bits r.response_meta.ret h.1.0)
record_said source (Data r) h = refl
record_said source (Feedback r) h = refl
record_said source (Close r) h =
    rw (signed_bits r.close_type h.0, signed_bits r.ret h.1.0, signed_bits r.func_ret h.1.1.1.0)

-- what the record of slots that were read means
pub read_says : (kind : Kind) (f : List ℕ) (id version : ℕ) (slots : List ℕ) (count : ℕ) (numbers : List ℕ)
    → answer_meaning (Ok (record_of kind id version slots count)) f numbers
    ≡ says kind id version (said_in f (schema_of kind) 0 slots) (pairs_of f (rows_in count numbers))
unfolding answer_meaning record_of said_in fields_of kind_of record_id record_version row_count width
read_says kinds.Request f id version slots count numbers = refl
read_says kinds.Response f id version slots count numbers = refl
read_says kinds.Init f id version slots count numbers = refl
read_says kinds.Data f id version slots count numbers = refl
read_says kinds.Feedback f id version slots count numbers = refl
read_says kinds.Close f id version slots count numbers = refl

-- ---- the attachment size, as one of the fields
unsigned_in : Said → ℕ
unsigned_in (unsigned n) = n
unsigned_in (signed z) = 0
unsigned_in (present b) = 0
unsigned_in (text x) = 0

attachment_in : Kind → List Said → ℕ
attachment_in kinds.Request said = unsigned_in (get_or said 10 (unsigned 0))
attachment_in kinds.Response said = unsigned_in (get_or said 9 (unsigned 0))
attachment_in kinds.Init said = 0
attachment_in kinds.Data said = 0
attachment_in kinds.Feedback said = 0
attachment_in kinds.Close said = 0

attachment_said : (kind : Kind) (f slots : List ℕ) → attachment_size_of kind slots ≡ attachment_in kind (said_in f (schema_of kind) 0 slots)
unfolding attachment_size_of attachment_in said_in unsigned_in
attachment_said kinds.Request f slots = refl
attachment_said kinds.Response f slots = refl
attachment_said kinds.Init f slots = refl
attachment_said kinds.Data f slots = refl
attachment_said kinds.Feedback f slots = refl
attachment_said kinds.Close f slots = refl

pub attachment_back : (kind : Kind) (f l source slots : List ℕ) → said_in f (schema_of kind) 0 l ≡ said_in source (schema_of kind) 0 slots
    → attachment_size_of kind l ≡ attachment_size_of kind slots
attachment_back kind f l source slots e =
    attachment_said kind f l ∙ ap (attachment_in kind) e ∙ sym (attachment_said kind source slots)
