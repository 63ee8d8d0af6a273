-- Every record that a program passes to `write` has numbers of 32 bits and a version of 8: its declared types bound them.
-- Assumes nothing.
use Prim.Native.Nat.{ℕ, ◌^◌, ◌<◌}
use mathlib.Core.List.{List}
use mir.Val.{Val}
use denote.Laws.{Is}
use denote.Struct.Laws as struct
use denote.Enum.Laws as enum
use Rattle.records.specs.contracts.Record as R
use Rattle.records.proofs.Record.TheLaws as R'
use Rattle.records.specs.contracts.Request as Request
use Rattle.records.proofs.Request.TheLaws as Request'
use Rattle.records.specs.contracts.Response as Response
use Rattle.records.proofs.Response.TheLaws as Response'
use Rattle.records.specs.contracts.Init as Init
use Rattle.records.proofs.Init.TheLaws as Init'
use Rattle.records.specs.contracts.RequestMeta as RequestMeta
use Rattle.records.proofs.RequestMeta.TheLaws as RequestMeta'
use Rattle.records.specs.contracts.ResponseMeta as ResponseMeta
use Rattle.records.proofs.ResponseMeta.TheLaws as ResponseMeta'
use Rattle.records.specs.contracts.Data as Data
use Rattle.records.proofs.Data.TheLaws as Data'
use Rattle.records.specs.contracts.Feedback as Feedback
use Rattle.records.proofs.Feedback.TheLaws as Feedback'
use Rattle.records.specs.contracts.Close as Close
use Rattle.records.proofs.Close.TheLaws as Close'
use Rattle.records.specs.declared.Record.{Record}
use Rattle.records.specs.declared.Record.TheVariants as records
use Rattle.records.specs.Content.{record_id, record_version}
use Rattle.message.specs.Meaning.{fields_of}
use Rattle.thm_round_trip.specs.InRange.{InRange}
use Rattle.thm_round_trip.specs.Calls.{Held}

-- ---- each field of a struct is held in its turn: `.0` is the field, and `.0 .1` its bound; `.1` are the fields after it
pair : {A B : Type 0} → A → B → A × B
pair a b = (a, b)

module _ (source : List ℕ) where
  in_range : (r : Record) (vs : List Val) → Is R.the_row r vs
      → (record_id r < 2 ^ 32) × ((record_version r < 2 ^ 8) × InRange (fields_of source r))
  unfolding fields_of record_id record_version
  in_range (records.Request r) vs is =
      let id = struct.owed Request.the_type Request'.the_laws r _ (enum.owed R.the_type R'.the_laws (records.Request r) vs is).0 in
      let version = id.1.1 in
      let call_type = version.1 in
      let request_id = call_type.1 in
      let timeout = request_id.1 in
      let caller = timeout.1 in
      let callee = caller.1 in
      let func = callee.1 in
      let message_type = func.1 in
      let content_type = message_type.1 in
      let content_encoding = content_type.1 in
      let attachment_size = content_encoding.1 in
      pair id.0.1 (pair id.1.0.1 (pair version.0.1 (pair call_type.0.1 (pair request_id.0.1 (pair timeout.0.1
      (pair message_type.0.1 (pair content_type.0.1 (pair content_encoding.0.1 (pair attachment_size.0.1 tt)))))))))
  in_range (records.Response r) vs is =
      let id = struct.owed Response.the_type Response'.the_laws r _ (enum.owed R.the_type R'.the_laws (records.Response r) vs is).0 in
      let version = id.1.1 in
      let call_type = version.1 in
      let request_id = call_type.1 in
      let ret = request_id.1 in
      let func_ret = ret.1 in
      let error_msg = func_ret.1 in
      let message_type = error_msg.1 in
      let content_type = message_type.1 in
      let content_encoding = content_type.1 in
      let attachment_size = content_encoding.1 in
      pair id.0.1 (pair id.1.0.1 (pair version.0.1 (pair call_type.0.1 (pair request_id.0.1 (pair ret.0.1
      (pair func_ret.0.1 (pair message_type.0.1 (pair content_type.0.1 (pair content_encoding.0.1
      (pair attachment_size.0.1 tt))))))))))
  in_range (records.Init r) vs is =
      let id = struct.owed Init.the_type Init'.the_laws r _ (enum.owed R.the_type R'.the_laws (records.Init r) vs is).0 in
      let request_meta_lem = id.1.1 in
      let response_meta_lem = request_meta_lem.1 in
      let init_window_size = response_meta_lem.1 in
      let content_type = init_window_size.1 in
      let content_encoding = content_type.1 in
      let caller = (struct.owed RequestMeta.the_type RequestMeta'.the_laws r.request_meta _ request_meta_lem.0).1 in
      let ret = (struct.owed ResponseMeta.the_type ResponseMeta'.the_laws r.response_meta _ response_meta_lem.0).1 in
      let message_type = caller.1.1.1 in
      pair id.0.1 (pair id.1.0.1 (pair message_type.0.1 (pair ret.0.1 (pair init_window_size.0.1
      (pair content_type.0.1 (pair content_encoding.0.1 tt))))))
  in_range (records.Data r) vs is =
      let id = struct.owed Data.the_type Data'.the_laws r _ (enum.owed R.the_type R'.the_laws (records.Data r) vs is).0 in
      (id.0.1, (id.1.0.1, tt))
  in_range (records.Feedback r) vs is =
      let id = struct.owed Feedback.the_type Feedback'.the_laws r _ (enum.owed R.the_type R'.the_laws (records.Feedback r) vs is).0 in
      let window_size_increment = id.1.1 in
      (id.0.1, (id.1.0.1, (window_size_increment.0.1, tt)))
  in_range (records.Close r) vs is =
      let id = struct.owed Close.the_type Close'.the_laws r _ (enum.owed R.the_type R'.the_laws (records.Close r) vs is).0 in
      let close_type = id.1.1 in
      let ret = close_type.1 in
      let msg = ret.1 in
      let message_type = msg.1 in
      let func_ret = message_type.1 in
      (id.0.1, (id.1.0.1, (close_type.0.1, (ret.0.1, (message_type.0.1, (func_ret.0.1, tt))))))

  pub held_in_range : (r : Record) → Held r → (record_id r < 2 ^ 32) × ((record_version r < 2 ^ 8) × InRange (fields_of source r))
  held_in_range r held = in_range r held.value held.is
