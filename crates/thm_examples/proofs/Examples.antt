-- Promised: each row of the table holds for the definitions that the contracts cite, under the ceiling 65,536. They are computed;
-- nothing is assumed.
-- Not promised: that the programs run as compiled; they are run and compared.
-- Ruled out: a definition that gives another answer to one of document 01's examples, or to one of document 02's two bytes.
use mathlib.Core.Path.{refl}
use Rattle.fixed_header.specs.Header.{be16_of, be32_of, total_of, header_size_of, id_of, version_of, header_error, type_of, parsed}
use Rattle.fixed_header.specs.Header.{ceiling_ok, magic_ok, data_type_ok, stream_type_ok, total_ok, header_size_ok, fault_of}
use Rattle.deframer.specs.Stream.{uncut_in, uncut}
use Rattle.wire_read.specs.Varint.{joined, groups, varint, twos_complement}
use Rattle.wire_read.specs.Tags.{wire_type, split, tag, length_within, length_prefix}
use Rattle.wire_read.specs.Skipping.{skip_after as further_group, skip_varint, skip_fixed, skip_bytes, value, in_group, group_in}
use Rattle.wire_read.specs.Fields.{little_endian, content, field_after, next_field}
use Rattle.schema.specs.Schema.{width}
use Rattle.schema.specs.Targets.{look}
use Rattle.decoder.specs.Fields.{set_slot, set_bytes, set_number, same_bytes, enter, add_entry}
use Rattle.decoder.specs.Fields.{with_field, and_then, inside, one_field, fields_in, read_message}
use Rattle.records.specs.Records.{record_of, attachment_size_of}
use Rattle.message.specs.Frames.{header_of, body_of, kind_fits, with_attachment, answered, read_frame}
use Rattle.queue.specs.Due.{due}
use Rattle.queue.specs.Waiting.{invalid, earliest, closed_up}
use Rattle.queue.specs.Calls.{added, taken}
use Rattle.thm_examples.specs.Rows.{AllHold, no_more, ◌and◌}
use Rattle.thm_examples.specs.Table.{table, further}

both_hold : AllHold table × AllHold further
unfolding read_frame answered with_attachment header_of body_of kind_fits record_of attachment_size_of read_message fields_in one_field
    inside with_field and_then add_entry enter same_bytes set_number set_bytes set_slot look width next_field field_after content
    little_endian tag split varint groups joined wire_type length_prefix length_within value in_group group_in further_group skip_varint
    skip_fixed skip_bytes twos_complement be16_of be32_of total_of header_size_of id_of version_of magic_ok data_type_ok stream_type_ok total_ok
    header_size_ok ceiling_ok fault_of header_error type_of parsed uncut_in uncut added taken invalid earliest closed_up due
both_hold = (
  refl and refl and refl and refl and refl and refl and refl and refl and refl and refl and refl and refl
      and refl and refl and refl and refl and refl and refl and refl and refl and refl and refl and refl and refl and no_more,
  refl and refl and refl and refl and refl and refl and refl and refl and refl and refl and refl and refl and refl
      and no_more,
)

pub all_hold : AllHold table
all_hold = both_hold.0

pub further_hold : AllHold further
further_hold = both_hold.1
