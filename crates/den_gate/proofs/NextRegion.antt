-- What the next region of a slot is, from what stands before it.
use Rattle.std.proofs.Common.{◌≡◌, ◌≢◌, refl, ℕ, ◌+◌, ◌<◌, ◌≤◌, ◌^◌, List, [], ◌∷◌, ◌++◌, length, get_or, take, drop, Some, None, Result, Ok, Err, sym, ◌∙◌, ap, subst, arith, append_assoc, length-append, length-take, take-append-drop}
use Rattle.std.specs.Prelude.{slice_get}
use Rattle.std.proofs.lemmas.List.{take_at}
use Rattle.std.proofs.lemmas.Option.{slice_get_past}
use Rattle.den_model.specs.Regions.{Region, with_region, regions_behind, regions, open_regions, placed}
use Rattle.den_model.proofs.Cut.{with_regions, regions_written}
use Rattle.den_disk.specs.Files.{Files, Content}
use Rattle.den_gate.specs.declared.gate.GateFile.{GateFile}
use Rattle.den_gate.specs.declared.reader.RegionReader.{RegionReader}
use Rattle.den_gate.specs.Gate.{IsAtRest}
use Rattle.den_gate.specs.Reader.{StandsIn}
use Rattle.den_gate.specs.Window.{Shows}
use Rattle.den_gate.proofs.Families.{rest_regions}
use Rattle.den_gate.specs.Slot.{payloads_in, payloads_or_none, payloads_of, Begins, IsRegion}
use Rattle.den_gate.proofs.Written.{all_small, regions_size, with_regions_err, payloads_placed, holds_payloads, begins_holds, begins_more}

with_regions_more : (xs rs : List Region) → with_regions xs (Ok rs) ≡ Ok (xs ++ rs)
with_regions_more [] rs = refl
with_regions_more (x ∷ xs) rs = ap (with_region x) (with_regions_more xs rs)

payloads_more : (offset : ℕ) (qs : List (List ℕ)) (rs : List Region) → payloads_in (placed offset qs ++ rs) ≡ qs ++ payloads_in rs
payloads_more offset [] rs = refl
payloads_more offset (q ∷ qs) rs = ap (λ (l : List (List ℕ)). q ∷ l) (payloads_more (offset + (9 + length q)) qs rs)

prefix_of : (qs ps : List (List ℕ)) (rest : Result (List Region) ℕ) → with_regions (placed 0 qs) rest ≡ Ok (placed 0 ps) → (more : List (List ℕ)) × (ps ≡ qs ++ more)
prefix_of qs ps (Ok rs) is = (payloads_in rs, sym (payloads_placed 0 ps) ∙ ap payloads_or_none (sym is) ∙ ap payloads_or_none (with_regions_more (placed 0 qs) rs) ∙ payloads_more 0 qs rs)
prefix_of qs ps (Err at) is = absurd (cc (with_regions_err (placed 0 qs) at, is))

-- what begins a file begins its payloads
pub begins_payloads : (ps qs : List (List ℕ)) (at : ℕ) (file : List ℕ) → Begins qs at file → at < 2 ^ 64 → regions file ≡ Ok (placed 0 ps) → (more : List (List ℕ)) × (ps ≡ qs ++ more)
begins_payloads ps qs at file b small whole =
    let split : file ≡ open_regions qs ++ drop at file = sym (take-append-drop at file) ∙ ap (λ (l : List ℕ). l ++ drop at file) b.front in
    let read = ap regions split ∙ regions_written 0 qs (drop at file) (all_small qs (omega (arith, b.size))) in
    prefix_of qs ps (regions_behind (0 + length (open_regions qs)) 0 (drop at file)) (sym read ∙ whole)

length-placed : (offset : ℕ) (ps : List (List ℕ)) → length (placed offset ps) ≡ length ps
length-placed offset [] = refl
length-placed offset (p ∷ ps) = omega (arith, length-placed (offset + (9 + length p)) ps)

placed_behind : (offset : ℕ) (qs : List (List ℕ)) (p : List ℕ) (more : List (List ℕ)) → slice_get (placed offset (qs ++ p ∷ more)) (length qs) ≡ Some (record { offset = offset + length (open_regions qs); payload = p })
placed_behind offset [] p more = ap (λ (n : ℕ). Some (record { offset = n; payload = p })) (omega arith)
placed_behind offset (q ∷ qs) p more =
    let along : offset + (9 + length q) + length (open_regions qs) ≡ offset + length (open_regions (q ∷ qs)) = omega (arith, regions_size q qs) in
    placed_behind (offset + (9 + length q)) qs p more ∙ ap (λ (n : ℕ). Some (record { offset = n; payload = p })) along

module _ (ps : List (List ℕ)) (k at : ℕ) (file : List ℕ) (given : k ≤ length ps) (b : Begins (take k ps) at file) (whole : regions file ≡ Ok (placed 0 ps)) where
  -- a region that stands behind the first ones is the next
  pub next_found : (next : ℕ) (payload : List ℕ) → next < 2 ^ 64 → IsRegion at next payload file
      → (k + 1 ≤ length ps) × Begins (take (k + 1) ps) next file × (Some (record { offset = at; payload = payload }) ≡ slice_get (placed 0 ps) k)
  next_found next payload small region =
      let qs = take k ps in
      let long : length qs ≡ k = omega (arith, length-take k ps) in
      let grown = begins_more qs at next payload file b region in
      let more = begins_payloads ps (qs ++ payload ∷ []) next file grown small whole in
      let counted : length (qs ++ payload ∷ []) ≡ k + 1 = omega (arith, length-append qs (payload ∷ [])) in
      let front : take (k + 1) ps ≡ qs ++ payload ∷ [] = ap (take (k + 1)) more.1 ∙ take_at (qs ++ payload ∷ []) more.0 (k + 1) counted in
      let cut : ps ≡ qs ++ payload ∷ more.0 = more.1 ∙ append_assoc qs (payload ∷ []) more.0 in
      let here : 0 + length (open_regions qs) ≡ at = omega (arith, b.size) in (
        omega (arith, ap length more.1, length-append (qs ++ payload ∷ []) more.0),
        subst (λ (l : List (List ℕ)). Begins l next file) (sym front) grown,
        sym (ap (λ (l : List (List ℕ)). slice_get (placed 0 l) k) cut ∙ ap (slice_get (placed 0 (qs ++ payload ∷ more.0))) (sym long) ∙ placed_behind 0 qs payload more.0 ∙ ap (λ (n : ℕ). Some (record { offset = n; payload = payload })) here),
      )

  -- where no region stands there, none is left
  pub none_found : at < 2 ^ 64 → get_or file at 0 ≢ 1 → None ≡ slice_get (placed 0 ps) k
  none_found small shut =
      let all : take k ps ≡ ps = sym (holds_payloads (take k ps) at file (begins_holds (take k ps) at file b small shut)) ∙ ap payloads_or_none whole ∙ payloads_placed 0 ps in
      sym (slice_get_past (placed 0 ps) k (omega (arith, length-placed 0 ps, ap length all, length-take k ps)))

-- a reader of a gate file at rest stands before its first region
pub stands_first : (gate : GateFile) (c : Content) (reader : RegionReader) → IsAtRest gate c → reader.slot ≡ gate.slot → reader.len ≡ length (c.reading gate.slot) → reader.at ≡ 0 → reader.given ≡ 0
    → Shows reader.window (c.reading gate.slot) → StandsIn reader c.reading
stands_first gate c reader rest slot len at given shows =
    let file : c.reading reader.slot ≡ c.reading gate.slot = ap c.reading slot in
    let ps = payloads_of (c.reading reader.slot) in
    record {
      len = len ∙ ap length (sym file);
      shows = subst (λ (l : List ℕ). Shows reader.window l) (sym file) shows;
      whole = subst (λ (l : List ℕ). regions l ≡ Ok (placed 0 (payloads_of l))) (sym file) (rest_regions gate c rest);
      given = omega (arith, given);
      begins = subst (λ (n : ℕ). Begins (take n ps) reader.at (c.reading reader.slot)) (sym given)
          (subst (λ (n : ℕ). Begins [] n (c.reading reader.slot)) (sym at) (record { front = refl; size = refl }));
    }

-- and a reader that read a region stands behind it
pub stands_behind : (old new : RegionReader) (files after : Files) (payload : List ℕ) → StandsIn old files → after ≡ files → new.slot ≡ old.slot → new.len ≡ old.len → new.given ≡ old.given + 1
    → Shows new.window (files old.slot) → IsRegion old.at new.at payload (files old.slot) → StandsIn new after
stands_behind old new files after payload s same slot len given shows region =
    let file : after new.slot ≡ files old.slot = λ i. same i (slot i) in
    let ps = payloads_of (files old.slot) in
    let small : new.at < 2 ^ 64 = omega (arith, new.within, new.most) in
    let found = next_found ps old.given old.at (files old.slot) s.given s.begins s.whole new.at payload small region in
    record {
      len = len ∙ s.len ∙ ap length (sym file);
      shows = subst (λ (l : List ℕ). Shows new.window l) (sym file) shows;
      whole = subst (λ (l : List ℕ). regions l ≡ Ok (placed 0 (payloads_of l))) (sym file) s.whole;
      given = subst (λ (l : List ℕ). new.given ≤ length (payloads_of l)) (sym file) (omega (arith, given, found.0));
      begins = subst (λ (l : List ℕ). Begins (take new.given (payloads_of l)) new.at l) (sym file) (subst (λ (n : ℕ). Begins (take n ps) new.at (files old.slot)) (sym given) found.1);
    }
