-- Kind by kind.
use Rattle.writer.specs.Encoding.{put_fields}
use Rattle.writer.specs.Straight.{fours}
use Rattle.writer.proofs.Stores.{none, told}
use Rattle.writer.proofs.Pieces.{feedback_is}
use Rattle.writer.proofs.ByKind.{ready_request, ready_response, ready_init, ready_feedback, ready_close}
use Rattle.writer.proofs.message.Message.put.Goals as goal

pub put_request-requires : goal.put_request-requires
put_request-requires c =
    ready_request _ c.args.self.now.slots.now c.args.self.now.rows.now c.args.self.now.source.now _ _ c.in-Request.is (c.args.self.now.spans_in, c.requires)

pub put_response-requires : goal.put_response-requires
put_response-requires c =
    ready_response _ c.args.self.now.slots.now c.args.self.now.rows.now c.args.self.now.source.now _ _ c.in-Response.is (c.args.self.now.spans_in, c.requires)

pub put_init-requires : goal.put_init-requires
put_init-requires c =
    ready_init _ c.args.self.now.slots.now c.args.self.now.rows.now c.args.self.now.source.now _ _ c.in-Init.is (c.args.self.now.spans_in, c.requires)

pub put_number-requires : goal.put_number-requires
put_number-requires c =
    ready_feedback _ c.args.self.now.slots.now c.args.self.now.rows.now c.args.self.now.source.now _ _ c.in-Feedback.is
    (c.args.self.now.spans_in, c.requires)

pub put_close-requires : goal.put_close-requires
put_close-requires c =
    ready_close _ c.args.self.now.slots.now c.args.self.now.rows.now c.args.self.now.source.now _ _ c.in-Close.is (c.args.self.now.spans_in, c.requires)

pub returns-in-Request : goal.returns-in-Request
returns-in-Request c = rw c.in-Request.is c.put_request.ensures

pub returns-in-Response : goal.returns-in-Response
returns-in-Response c = rw c.in-Response.is c.put_response.ensures

pub returns-in-Init : goal.returns-in-Init
returns-in-Init c = rw c.in-Init.is c.put_init.ensures

pub returns-in-Data : goal.returns-in-Data
unfolding put_fields
returns-in-Data c =
    rw c.in-Data.is (none c.args.out.now c.args.at)

pub returns-in-Feedback : goal.returns-in-Feedback
returns-in-Feedback c =
    rw c.in-Feedback.is
    (told (feedback_is c.args.self.now.source.now (fours c.args.self.now.rows.now) c.args.self.now.slots.now)
    c.put_number.ensures)

pub returns-in-Close : goal.returns-in-Close
returns-in-Close c = rw c.in-Close.is c.put_close.ensures
