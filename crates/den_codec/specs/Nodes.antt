-- The nodes of a cluster.
use Rattle.std.specs.Prelude.{ℕ, pos, Bool, true, false, not, List, [], ◌∷◌, ◌==◌, ◌&&◌, ◌||◌, if◌then◌else◌}
use Rattle.std.specs.Ordering.{int_eq}
use Rattle.den_model.specs.declared.reply.NodeMeta.{NodeMeta}

-- whether a node has the id
abbrev pub has_id : ℕ → List NodeMeta → Bool
has_id id [] = false
has_id id (n ∷ ns) = n.id == id || has_id id ns

-- whether no id stands twice
abbrev pub ids_differ : List NodeMeta → Bool
ids_differ [] = true
ids_differ (n ∷ ns) = not (has_id n.id ns) && ids_differ ns

-- whether the ids differ, this node's among them
abbrev pub is_cluster : ℕ → List NodeMeta → Bool
is_cluster id nodes = has_id id nodes && ids_differ nodes

-- whether a node is this one and no learner, whose role is 3, or another and a learner
abbrev pub fits_solo : ℕ → NodeMeta → Bool
fits_solo own n = if n.id == own then not (int_eq n.role (pos 3)) else int_eq n.role (pos 3)

-- whether this node alone is no learner
abbrev pub is_solo : ℕ → List NodeMeta → Bool
is_solo own [] = true
is_solo own (n ∷ ns) = fits_solo own n && is_solo own ns
