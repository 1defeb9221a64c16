-- A run under a configuration that was read from a source.
use Rattle.std.proofs.Common.{◌≡◌, inl, inr, ℕ, Option, Result, Ok, Err, IfErr, ap}
use Rattle.den_codec.specs.declared.config.RaftNodeConfig.{RaftNodeConfig}
use Rattle.den_codec.specs.declared.config_place.ConfigPlace.{ConfigPlace}
use Rattle.den_codec.specs.declared.error.Error.{Error}
use Rattle.den_codec.specs.declared.error.Error.TheVariants as error
use Rattle.den_config.specs.Rows.{ConfigValues, values_of}
use Rattle.den_config.specs.Sources.{IsSourceRefusal}
use Rattle.den_server.specs.Causes.{IsRunRefusal}
use Rattle.den_server.specs.Configured.{HasRun, IsRun, IsRunError, run_config_in}
use Rattle.den_server.specs.Promises.{RunConfig, run_config}

-- the configuration that was read is that of the bytes
pub given_of : (told : Type 0) (outcome : Result ConfigValues ConfigPlace) (c : RaftNodeConfig) → (told → outcome ≡ Ok (values_of c)) → told → run_config_in outcome ≡ Ok (run_config c)
given_of told outcome c given t = ap run_config_in (given t)

module _ (rose told : Type 0) (outcome : Result ConfigValues ConfigPlace) (untouched : Type 0) (ran : RunConfig → Result (Unit {0}) Error → Type 0) where
  -- the source was refused
  pub source_refused : (e : Error) → untouched → IsSourceRefusal rose told outcome e → IsRun rose told outcome untouched ran (Err e)
  source_refused error.OutOfMemory same h = inl same
  source_refused error.ConfigFault same h = (h, same)
  source_refused (error.Config key) same h = (h, same)
  source_refused error.StorageIoError same h = absurd h
  source_refused (error.DiskFull needed limit) same h = absurd h
  source_refused error.LinkFault same h = absurd h
  source_refused (error.DataCorruption place offset) same h = absurd h
  source_refused error.FeatureNotEnabled same h = absurd h
  source_refused error.ProposeFailed same h = absurd h
  source_refused (error.UnorderedChunk index) same h = absurd h
  source_refused error.StateMachineError same h = absurd h

  -- a run with an error that a run has
  run_failed : (disk_rose link_rose tells : Type 0) (refusal : Option Error) (short : (most needed : ℕ) → Type 0) (most held taken : ℕ) (e : Error)
      → IsRunRefusal disk_rose link_rose tells refusal short most held taken e → HasRun told outcome (λ config. ran config (Err e)) → IsRun rose told outcome untouched ran (Err e)
  run_failed disk_rose link_rose tells refusal short most held taken error.OutOfMemory h run = inr run
  run_failed disk_rose link_rose tells refusal short most held taken error.ConfigFault h run = absurd h
  run_failed disk_rose link_rose tells refusal short most held taken (error.Config key) h run = absurd h
  run_failed disk_rose link_rose tells refusal short most held taken error.StorageIoError h run = run
  run_failed disk_rose link_rose tells refusal short most held taken (error.DiskFull needed limit) h run = run
  run_failed disk_rose link_rose tells refusal short most held taken error.LinkFault h run = run
  run_failed disk_rose link_rose tells refusal short most held taken (error.DataCorruption place offset) h run = run
  run_failed disk_rose link_rose tells refusal short most held taken error.FeatureNotEnabled h run = run
  run_failed disk_rose link_rose tells refusal short most held taken error.ProposeFailed h run = run
  run_failed disk_rose link_rose tells refusal short most held taken (error.UnorderedChunk index) h run = absurd h
  run_failed disk_rose link_rose tells refusal short most held taken error.StateMachineError h run = absurd h

  -- a run was made under the configuration that was read
  pub run_made : (c : RaftNodeConfig) (answer : Result (Unit {0}) Error) (disk_rose link_rose tells : Type 0) (refusal : Option Error) (short : (most needed : ℕ) → Type 0) (most held taken : ℕ)
      → (told → outcome ≡ Ok (values_of c)) → IfErr answer (IsRunRefusal disk_rose link_rose tells refusal short most held taken) → ran (run_config c) answer → IsRun rose told outcome untouched ran answer
  run_made c (Ok done) disk_rose link_rose tells refusal short most held taken given cause run = record { config = run_config c; given = given_of told outcome c given; held = run }
  run_made c (Err e) disk_rose link_rose tells refusal short most held taken given cause run = run_failed disk_rose link_rose tells refusal short most held taken e cause (record { config = run_config c; given = given_of told outcome c given; held = run })
