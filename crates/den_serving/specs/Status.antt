-- The program's exit status, and the line that goes with it.
use Rattle.std.specs.Prelude.{◌≡◌, ◌++◌, ◌==◌, ℕ, List, [], codes, decimal, Option, Some, None, Result, Ok, Err, if◌then◌else◌}
use Rattle.den_disk.specs.Goes.{IsPrefix}
use Rattle.den_codec.specs.ConfigPlaces.{key}
use Rattle.den_codec.specs.declared.config_place.ConfigPlace.{ConfigPlace}
use Rattle.den_codec.specs.declared.error.Error.{Error}
use Rattle.den_codec.specs.declared.error.Error.TheVariants.{OutOfMemory, StorageIoError, DiskFull, LinkFault, DataCorruption, FeatureNotEnabled, ProposeFailed, UnorderedChunk, Config, ConfigFault, StateMachineError}

abbrev pub status_of_error : Error → ℕ
status_of_error OutOfMemory = 1
status_of_error StorageIoError = 5
status_of_error LinkFault = 6
status_of_error (DiskFull needed limit) = 7
status_of_error (DataCorruption place offset) = 8
status_of_error FeatureNotEnabled = 9
status_of_error ProposeFailed = 10
status_of_error (UnorderedChunk index) = 1
status_of_error (Config place) = 3
status_of_error ConfigFault = 4
status_of_error StateMachineError = 1

-- the status of a run's answer, or of words that do not parse
abbrev pub status_of : Option (Result (Unit {0}) Error) → ℕ
status_of None = 2
status_of (Some (Ok done)) = 0
status_of (Some (Err e)) = status_of_error e

-- the name of the file of this number
unfoldable pub file_name : ℕ → List ℕ
file_name number =
    if number == 0 then codes "log.head"
    else if number == 1 then codes "log.a"
    else if number == 2 then codes "log.b"
    else if number == 3 then codes "meta.head"
    else if number == 4 then codes "meta.a"
    else if number == 5 then codes "meta.b"
    else if number == 6 then codes "state.head"
    else if number == 7 then codes "state.a"
    else if number == 8 then codes "state.b"
    else if number == 9 then codes "snapshot.head"
    else if number == 10 then codes "snapshot.a"
    else codes "snapshot.b"

unfoldable pub corruption_front : (place : ℕ) → List ℕ
corruption_front place = codes "den_server: data corruption in " ++ file_name place

unfoldable pub corruption_end : (offset : ℕ) → List ℕ
corruption_end offset = codes " at " ++ decimal offset ++ codes "\n"

-- the line of a file that is corrupt at an offset
abbrev pub corruption_line : (place offset : ℕ) → List ℕ
corruption_line place offset = corruption_front place ++ corruption_end offset

-- the line of a configuration that is refused at a key
unfoldable pub key_line : ConfigPlace → List ℕ
key_line place = codes "den_server: bad configuration at " ++ key place ++ codes "\n"

abbrev pub line_of_error : Error → List ℕ
line_of_error OutOfMemory = codes "den_server: out of memory\n"
line_of_error StorageIoError = codes "den_server: storage fault\n"
line_of_error LinkFault = codes "den_server: link fault\n"
line_of_error (DiskFull needed limit) = codes "den_server: disk limit reached\n"
line_of_error (DataCorruption place offset) = corruption_line place offset
line_of_error FeatureNotEnabled = codes "den_server: lease is not enabled\n"
line_of_error ProposeFailed = codes "den_server: term or index exhausted\n"
line_of_error (UnorderedChunk index) = codes "den_server: out of memory\n"
line_of_error (Config place) = key_line place
line_of_error ConfigFault = codes "den_server: configuration cannot be read\n"
line_of_error StateMachineError = codes "den_server: out of memory\n"

-- the line of a run's answer, or of words that do not parse; empty where all went well
abbrev pub line_of : Option (Result (Unit {0}) Error) → List ℕ
line_of None = codes "den_server: usage: den_server FOLDER [--config FILE] [--listen PORT] [--drive N]\n"
line_of (Some (Ok done)) = []
line_of (Some (Err e)) = line_of_error e

-- an error whose line names neither a file nor a key
abbrev pub IsFixed : Error → Type 0
IsFixed (DataCorruption place offset) = ⊥
IsFixed OutOfMemory = Unit {0}
IsFixed StorageIoError = Unit {0}
IsFixed (DiskFull needed limit) = Unit {0}
IsFixed LinkFault = Unit {0}
IsFixed FeatureNotEnabled = Unit {0}
IsFixed ProposeFailed = Unit {0}
IsFixed (UnorderedChunk index) = Unit {0}
IsFixed (Config place) = ⊥
IsFixed ConfigFault = Unit {0}
IsFixed StateMachineError = Unit {0}

-- a front of the line joined what was written
abbrev pub IsWrittenFront : (line old new : List ℕ) → Type 0
IsWrittenFront line old new = (front : List ℕ) × IsPrefix front line × (new ≡ old ++ front)
