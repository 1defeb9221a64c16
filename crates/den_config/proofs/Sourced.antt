-- The configuration that the bytes of a source give, and how a source is refused.
use Rattle.std.proofs.Common.{◌≡◌, ℕ, ◌<◌, ◌++◌, true, false, List, cond, length, refl, ◌∙◌, ap, arith, length-append}
use Rattle.std.specs.Prelude.{Result, Ok, Err}
use Rattle.std.specs.Str.{IsUtf8, is_utf8}
use Rattle.std.proofs.lemmas.Bool.{lt-leb}
use Rattle.std.proofs.lemmas.Str.{IsUtf8-from_is_utf8, is_utf8-from_IsUtf8}
use Rattle.den_codec.specs.Nodes.{is_solo}
use Rattle.den_codec.specs.declared.config_place.ConfigPlace.{ConfigPlace}
use Rattle.den_codec.specs.declared.config_place.ConfigPlace.TheVariants.{Text, InitialCluster}
use Rattle.den_codec.specs.declared.error.Error.{Error}
use Rattle.den_codec.specs.declared.error.Error.TheVariants.{OutOfMemory, StorageIoError, DiskFull, LinkFault, DataCorruption, FeatureNotEnabled, ProposeFailed, UnorderedChunk, Config, ConfigFault, StateMachineError}
use Rattle.den_config.proofs.Steps.{and_then_err}
use Rattle.den_config.specs.Refusals.{and_then, IsRefusal}
use Rattle.den_config.specs.Rows.{ConfigValues, configuration, root_of}
use Rattle.den_config.specs.Sources.{IsSourceRefusal, configuration_in, solo_configuration_in, with_one_voter}

-- bytes that are a text
pub as_text : (bytes : List ℕ) → IsUtf8 bytes → configuration_in bytes ≡ configuration bytes
unfolding configuration_in
as_text bytes is = rw (is_utf8-from_IsUtf8 bytes is) refl

-- bytes that are none
pub no_text : (bytes : List ℕ) → ¬ (IsUtf8 bytes) → configuration_in bytes ≡ Err Text
unfolding configuration_in
no_text bytes broken =
    elim (is_utf8 bytes) as (λ b. is_utf8 bytes ≡ b → cond b (configuration bytes) (Err Text) ≡ Err Text) [
      | true ↦ λ e. absurd (broken (IsUtf8-from_is_utf8 bytes e))
      | false ↦ λ e. refl
    ] refl

long_text : (bytes : List ℕ) → 1048576 < length bytes → configuration bytes ≡ Err Text
unfolding configuration root_of
long_text bytes long = rw (lt-leb (length bytes) 1048576 long) refl

-- more bytes than a text may have
too_long : (bytes : List ℕ) → 1048576 < length bytes → configuration_in bytes ≡ Err Text
unfolding configuration_in
too_long bytes long =
    elim (is_utf8 bytes) as (λ b. cond b (configuration bytes) (Err Text) ≡ Err Text) [
      | true ↦ long_text bytes long
      | false ↦ refl
    ]

-- more than that was held of a source
pub held_too_long : (whole held rest : List ℕ) → whole ≡ held ++ rest → 1048576 < length held → configuration_in whole ≡ Err Text
held_too_long whole held rest is long = too_long whole (omega (arith, ap length is, length-append held rest))

-- a refusal of what one more step would have been made on
pub step_refusal : {A B : Type 0} (rose told : Type 0) (r : Result A ConfigPlace) (step : A → Result B ConfigPlace) (e : Error) → IsSourceRefusal rose told r e → IsSourceRefusal rose told (and_then r step) e
step_refusal rose told r step OutOfMemory h = h
step_refusal rose told r step (Config key) h = λ t. and_then_err r step key (h t)
step_refusal rose told r step StorageIoError h = h
step_refusal rose told r step (DiskFull needed limit) h = h
step_refusal rose told r step LinkFault h = h
step_refusal rose told r step (DataCorruption place offset) h = h
step_refusal rose told r step FeatureNotEnabled h = h
step_refusal rose told r step ProposeFailed h = h
step_refusal rose told r step (UnorderedChunk index) h = h
step_refusal rose told r step ConfigFault h = h
step_refusal rose told r step StateMachineError h = h

pub solo_refusal : (rose told : Type 0) (bytes : List ℕ) (e : Error) → IsSourceRefusal rose told (configuration_in bytes) e → IsSourceRefusal rose told (solo_configuration_in bytes) e
unfolding solo_configuration_in
solo_refusal rose told bytes e h = step_refusal rose told (configuration_in bytes) with_one_voter e h

-- a configuration of one voter
pub solo_given : (bytes : List ℕ) (c : ConfigValues) → configuration_in bytes ≡ Ok c → is_solo c.cluster.node_id c.cluster.initial_cluster ≡ true → solo_configuration_in bytes ≡ Ok c
unfolding solo_configuration_in
solo_given bytes c is alone = rw (is, alone) refl

-- one of several
pub solo_refused : (bytes : List ℕ) (c : ConfigValues) → configuration_in bytes ≡ Ok c → is_solo c.cluster.node_id c.cluster.initial_cluster ≡ false → solo_configuration_in bytes ≡ Err InitialCluster
unfolding solo_configuration_in
solo_refused bytes c is several = rw (is, several) refl
