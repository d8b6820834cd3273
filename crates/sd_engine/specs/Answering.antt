-- What comes of an answer to a client.
use Rattle.std.specs.Prelude.{◌≡◌, ℕ, List}
use Rattle.std.specs.declared.option.Option.{Option}
use Rattle.std.specs.Io.KnownBytes.{Appends}
use Rattle.sd_base.specs.Written.{AppendsFront}
use Rattle.sd_rules.specs.declared.tasks.Said.{Said}
use Rattle.sd_wire.specs.Frames as frames
use Rattle.sd_wire.specs.SaidTexts.{line_of}
use Rattle.sd_engine.specs.declared.answering.Answered.{Answered}
use Rattle.sd_engine.specs.declared.answering.Answered.TheVariants as answered

-- the reply frame of what a client is told: the length of its text in four octets, the highest first, and the text
unfoldable pub reply_of : List ℕ → Said → List ℕ
reply_of pwfield said = frames.reply_of (line_of said pwfield)

abbrev pub Answers : Answered → List ℕ → Option (List ℕ) → Option (List ℕ) → Type 0 → Type 0
Answers answered.Whole reply held held' writes = Appends held held' reply
Answers answered.Fault reply held held' writes = writes × AppendsFront held held' reply
Answers answered.Memory reply held held' writes = held' ≡ held
