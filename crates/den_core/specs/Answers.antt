-- What a step answers, as bytes, and how it is sent.
use Rattle.std.specs.Prelude.{◌≡◌, ℕ, List, ◌++◌}
use Rattle.std.specs.List.{flat_map}
use Rattle.den_disk.specs.Goes.{stamped}
use Rattle.den_model.specs.declared.reply.Reply.{Reply}
use Rattle.den_model.specs.declared.reply.WatchEvent.{WatchEvent}
use Rattle.den_model.specs.Spelling.{reply_word, event_word}
use Rattle.den_model.specs.Frames.{framed}

-- the reply's frame, and behind it the events' frames
abbrev pub frames_of : Reply → List WatchEvent → List ℕ
frames_of reply events = framed (reply_word reply) ++ flat_map (λ e. framed (event_word e)) events

-- the first of these bytes were sent at a moment, and the others are left
pub record SendsFirst (bytes left : List ℕ) (before after : List (ℕ × ℕ)) (moment : ℕ) : Type 0 where
  pub sent : List ℕ
  pub parts : sent ++ left ≡ bytes
  pub is : after ≡ before ++ stamped sent moment
