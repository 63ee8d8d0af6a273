-- A frame of another size or of another kind is refused with 9; any other is whole (`WholeFrames`).
use Rattle.fixed_header.specs.Header.{max_frame}
use mathlib.Core.Path.{sym, ◌∙◌}
use Rattle.message.proofs.WholeFrames.{size_refused, kind_refused, whole_frame}
use Rattle.message.proofs.frames.read_whole.Goals as goal

pub returns-then-frame-header : goal.returns-then-frame-header
returns-then-frame-header c =
    size_refused max_frame c.args.kind c.args.frame.now c.args.rows.now c.requires.0 c.requires.1
    c.args.header c.requires.2 c.if-frame-header.true

pub returns-then-not-kind_fits : goal.returns-then-not-kind_fits
returns-then-not-kind_fits c =
    kind_refused max_frame c.args.kind c.args.frame.now c.args.rows.now c.requires.0 c.requires.1
    c.args.header c.requires.2 c.if-frame-header.false (sym c.kind_fits.ensures ∙ c.if-not-kind_fits.true)

pub read_message-requires : goal.read_message-requires
read_message-requires c = (
  c.requires.0,
  whole_frame max_frame c.args.kind c.args.frame.now c.args.rows.now c.requires.0
      c.requires.1 c.args.header c.requires.2 c.if-frame-header.false
      (sym c.kind_fits.ensures ∙ c.if-not-kind_fits.false),
)
