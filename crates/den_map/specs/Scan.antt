-- The keys of a scan.
use Rattle.std.specs.Prelude.{ℕ, List, map}
use Rattle.den_model.specs.declared.reply.KvEntry.{KvEntry}

abbrev pub keys_in : List KvEntry → List (List ℕ)
keys_in entries = map (λ e. e.key) entries
