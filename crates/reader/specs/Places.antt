-- "Header, body and attachment are handed back as parts of the caller's frame": where they are
use Rattle.std.specs.Prelude.{ℕ, ◌≡◌}
use Rattle.message.specs.Spans.{Spans, place_after}

-- each part is in the frame where its span starts, an empty one at the frame's first byte
abbrev pub PartsStand : (frame : ℕ × ℕ) → Spans → (header body attachment : ℕ × ℕ) → Type 0
PartsStand frame spans header body attachment =
    (header ≡ place_after frame spans.header.start)
    × (body ≡ place_after frame spans.body.start)
    × (attachment ≡ place_after frame spans.attachment.start)
