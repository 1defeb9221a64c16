-- How much heavier the steps of an engine make it.
use Rattle.std.specs.Prelude.{ℕ, ◌+◌, ◌*◌, length}
use Rattle.den_model.specs.declared.command.Command.{Command}
use Rattle.den_model.specs.declared.command.Command.TheVariants.{Noop}
use Rattle.den_model.specs.declared.request.Frame.{Frame}
use Rattle.den_model.specs.declared.request.Frame.TheVariants.{Good, Bad}
use Rattle.den_model.specs.Sizes.{frame_size, store_rise}
use Rattle.den_model.specs.Spelling.{command_word}
use Rattle.den_core.specs.declared.ask.Asked.{Asked}
use Rattle.den_core.specs.declared.ask.Asked.TheVariants.{Commit, Say, Watch}

-- a cleanup's region has a moment
abbrev pub clean_rise : ℕ
clean_rise = store_rise 0

-- what a frame asks for, behind the cleanup that may be due; a frame that is bad writes nothing
abbrev pub ask_rise : Frame → ℕ
ask_rise Bad = 0
ask_rise (Good request) = 1792 + 8 * frame_size (Good request)

-- a frame's turn: the cleanup that may be due, and what it asks for
abbrev pub frame_rise : Frame → ℕ
frame_rise frame = clean_rise + ask_rise frame

-- the opening's steps write a hard state, an entry without effect and a cleanup
abbrev pub opening_rise : ℕ
opening_rise = 3584

-- what an engine comes to that began with this weight, by frames of so many bytes
abbrev pub served_weight : (weight taken : ℕ) → ℕ
served_weight weight taken = weight + 256 * taken

-- what a run comes to, its opening with it
abbrev pub run_weight : (weight taken : ℕ) → ℕ
run_weight weight taken = weight + opening_rise + 256 * taken

-- a hard state's word has at most 21 bytes
abbrev pub raise_rise : ℕ
raise_rise = store_rise 21

-- a command's entry is handed to the log and to the map: index, term and moment have 24 bytes
abbrev pub commit_rise : Command → ℕ
commit_rise command = 2 * store_rise (24 + length (command_word command))

-- a purge's region has an index and a term
abbrev pub trim_rise : ℕ
trim_rise = store_rise 0

-- a command is committed, and then entries may be purged
abbrev pub write_rise : Command → ℕ
write_rise command = commit_rise command + trim_rise

-- what a frame comes to
abbrev pub asked_rise : Asked → ℕ
asked_rise (Commit command) = write_rise command
asked_rise (Watch key prefix prev_kv) = 0
asked_rise (Say reply) = 0

-- a term is raised, and its first entry committed
abbrev pub term_rise : ℕ
term_rise = raise_rise + write_rise Noop
