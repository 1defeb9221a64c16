-- What the words of the command line name.
use Rattle.std.specs.Prelude.{ℕ, true, List, [], Option, Some, None, codes, option_map, string_bytes, if◌then◌else◌}
use Rattle.clap.specs.Walk.{is_empty}
use Rattle.clap.specs.Words.{App, Row, Rule, fault_of, first_of, matches_of, new_app, new_rule, with_rule}
use Rattle.den_words.specs.Numbers.{given_number}
use Rattle.den_words.specs.declared.names.Names.{Names}

-- an option of one value
abbrev pub option_rule : (name : List ℕ) → Rule
option_rule name = record (new_rule name) { long = Some name }

-- the folder, which is wanted
abbrev pub folder_rule : Rule
folder_rule = record (new_rule (codes "folder")) { required = true }

-- the command before its arguments: its words begin behind the program's name, and none asks for help
abbrev pub bare_command : App
bare_command = record { top = record (new_app (codes "den_server")).top { no_binary_name = true; disable_help_flag = true }; subs = [] }

-- the command: FOLDER [--config FILE] [--listen PORT] [--drive N]
abbrev pub command_line : App
command_line = with_rule (with_rule (with_rule (with_rule bare_command folder_rule) (option_rule (codes "config"))) (option_rule (codes "listen"))) (option_rule (codes "drive"))

-- what words name
pub record Named : Type 0 where
  pub folder : List ℕ
  pub config : Option (List ℕ)
  pub listen : Option ℕ
  pub drive : Option ℕ

-- The values together: a folder, and numbers that are what is wanted; a port and a count do not stand together.
abbrev pub named : (folder config : Option (List ℕ)) (listen drive : Option (Option ℕ)) → Option Named
named None config listen drive = None
named (Some folder) config None drive = None
named (Some folder) config (Some listen) None = None
named (Some folder) config (Some (Some port)) (Some (Some count)) = None
named (Some folder) config (Some None) (Some drive) = Some (record { folder = folder; config = config; listen = None; drive = drive })
named (Some folder) config (Some (Some port)) (Some None) = Some (record { folder = folder; config = config; listen = Some port; drive = None })

-- the values that clap found
abbrev pub named_by : List Row → Option Named
named_by rows = named (first_of (codes "folder") rows) (first_of (codes "config") rows)
    (given_number 1 65535 (first_of (codes "listen") rows)) (given_number 0 1000000 (first_of (codes "drive") rows))

-- what the words name, where clap takes them and the values are what is wanted
abbrev pub names_in : (words : List (List ℕ)) → Option Named
names_in words = if is_empty (fault_of command_line words) then named_by (matches_of command_line words) else None

-- the names as they are seen
abbrev pub named_of : Names → Named
named_of n = record { folder = string_bytes n.folder; config = option_map string_bytes n.config; listen = n.listen; drive = n.drive }
