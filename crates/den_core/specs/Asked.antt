-- What a frame comes to: an entry that is committed, a watcher that is registered, or a reply at once.
use Rattle.std.specs.Prelude.{◌≡◌, ◌<◌, ◌^◌, ◌-◌, ◌&&◌, not, ℕ, true, false}
use Rattle.den_model.specs.Kv.{Kv, Setting}
use Rattle.den_model.specs.Step.{Outcome, says, committed, has_ttl, is_leader, watch}
use Rattle.den_model.specs.declared.command.Command.{Command}
use Rattle.den_core.specs.declared.ask.Asked.{Asked}
use Rattle.den_core.specs.declared.ask.Asked.TheVariants.{Commit, Say, Watch}

-- what it leaves, replies and raises
abbrev pub outcome_of : Kv → ℕ → Asked → Outcome
outcome_of s moment (Commit command) = committed s moment command
outcome_of s moment (Watch key prefix prev_kv) = watch s key prefix prev_kv
outcome_of s moment (Say reply) = says s reply

-- a command that a leader with this setting may commit behind this index: one index is left, and a lease is configured
-- where it has a time to live
abbrev pub MayCommit : Setting → ℕ → Command → Type 0
MayCommit setting last_index command = (is_leader setting.role ≡ true) × ((has_ttl command && not setting.lease) ≡ false) × (last_index < 2 ^ 64 - 1)

-- where one is to be committed, it may be
abbrev pub HasRoom : Setting → ℕ → Asked → Type 0
HasRoom setting last_index (Commit command) = MayCommit setting last_index command
HasRoom setting last_index (Watch key prefix prev_kv) = Unit {0}
HasRoom setting last_index (Say reply) = Unit {0}
