-- The words of values that fit are read back.
use Rattle.std.proofs.Common.{◌≡◌, Some, refl}
use Rattle.den_model.specs.declared.log_id.HardState.{HardState}
use Rattle.den_model.specs.declared.region.LogRegion.{LogRegion}
use Rattle.den_model.specs.declared.region.StateRegion.{StateRegion}
use Rattle.den_model.specs.Spelling.{log_region_word, hard_state_word, state_region_word}
use Rattle.den_model.specs.Words.{FitsLogRegion, FitsHardState, FitsStateRegion}
use Rattle.den_model.specs.Reading.{log_region_in, hard_state_in, state_region_in}
use Rattle.den_model.proofs.Spells.{word_again}
use Rattle.den_model.proofs.LogSpells.{spells_hard_state}
use Rattle.den_model.proofs.RegionSpells.{spells_log_region}
use Rattle.den_model.proofs.StateSpells.{spells_state_region}

pub hard_state_again : (h : HardState) → FitsHardState h → hard_state_in (hard_state_word h) ≡ Some h
unfolding hard_state_in
hard_state_again h f = word_again spells_hard_state (hard_state_word h) h (refl, f)

pub log_region_again : (r : LogRegion) → FitsLogRegion r → log_region_in (log_region_word r) ≡ Some r
unfolding log_region_in
log_region_again r h = word_again spells_log_region (log_region_word r) r (refl, h)

pub state_region_again : (r : StateRegion) → FitsStateRegion r → state_region_in (state_region_word r) ≡ Some r
unfolding state_region_in
state_region_again r h = word_again spells_state_region (state_region_word r) r (refl, h)
