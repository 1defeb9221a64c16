-- The members of a cluster.
use Rattle.std.specs.Prelude.{ℕ, ◌+◌, ◌-◌, ◌^◌, ◌==◌, min, Bool, List, [], ◌∷◌, map, if◌then◌else◌}
use Rattle.std.specs.List.{list_any}
use Rattle.den_model.specs.declared.reply.NodeMeta.{NodeMeta}
use Rattle.den_member.specs.Numbered.{Numbered, set}

-- the nodes under their ids, and the number of the change that made them so
pub record Members : Type 0 where
  pub nodes : Numbered NodeMeta
  pub version : ℕ

-- the number of the next change, up to the last number
abbrev pub next_version : Members → ℕ
next_version m = min (m.version + 1) (2 ^ 64 - 1)

-- nodes that join, one after the other: of equal ids the last counts
abbrev pub joined : Numbered NodeMeta → List NodeMeta → Numbered NodeMeta
joined t [] = t
joined t (n ∷ ns) = joined (set t n.id n) ns

abbrev pub of_nodes : List NodeMeta → ℕ → Members
of_nodes nodes version = record { nodes = joined [] nodes; version = version }

-- whether the id is this one
abbrev pub is_id : ℕ → ℕ → Bool
is_id id other = id == other

-- whether the id is one of these
abbrev pub is_listed : List ℕ → ℕ → Bool
is_listed ids id = list_any (λ i. i == id) ids

-- each node whose id passes is changed so
abbrev pub changed : (ℕ → Bool) → (NodeMeta → NodeMeta) → Members → Members
changed passes f m = record m { nodes = map (λ e. if passes e.0 then (e.0, f e.1) else e) m.nodes }
