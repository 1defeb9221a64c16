-- What a run begins with under a core that leads alone.
use Rattle.std.proofs.Common.{◌≡◌, ◌≤◌, ◌&&◌, ℕ, Bool, true, false, IsTrue, List, drop, length, refl, sym, ◌∙◌, ap}
use Rattle.std.proofs.lemmas.List.{drop_all}
use Rattle.den_codec.specs.Nodes.{has_id, is_cluster}
use Rattle.den_codec.specs.Standard.{running_of}
use Rattle.den_codec.specs.declared.config.RaftNodeConfig.{RaftNodeConfig}
use Rattle.den_core.specs.Cores.{CoreView, running_under, solo_view}
use Rattle.den_model.specs.Step.{is_leader}
use Rattle.den_model.specs.declared.reply.NodeMeta.{NodeMeta}
use Rattle.den_model.specs.Kv.{Running}

-- with leases where the configuration enables them
pub running_is : (config : RaftNodeConfig) (view : CoreView) (leased : Bool) → view ≡ solo_view config.cluster.node_id 0 → leased ≡ config.raft.lease.enabled
    → running_under config view leased ≡ running_of config
running_is config view leased alone same = λ i. running_under config (alone i) (same i)

-- such a run leads
pub leads_of : (running : Running) (config : RaftNodeConfig) → running ≡ running_of config → is_leader running.setting.role ≡ true
leads_of running config is = ap (λ (r : Running). is_leader r.setting.role) is

first_of : (a b : Bool) → IsTrue (a && b) → a ≡ true
first_of true b is = refl
first_of false b is = absurd (cc is)

-- the own node is one of the cluster
pub has_own : (id : ℕ) (nodes items : List NodeMeta) (index : ℕ) → items ≡ nodes → IsTrue (is_cluster id nodes) → length items ≤ index → has_id id (drop index items) ≡ has_id id items → ⊥
has_own id nodes items index same cluster end kept =
    let none : false ≡ true = ap (has_id id) (sym (drop_all index items end)) ∙ kept ∙ ap (has_id id) same ∙ first_of (has_id id nodes) _ cluster in
    cc none
