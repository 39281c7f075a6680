-- What `hd_base` has, passed on to the crates above.
pub use Rattle.hd_base.specs.SumRules
pub use Rattle.hd_base.specs.Wire
pub use Rattle.hd_base.specs.declared.numbers.BlockId
pub use Rattle.hd_base.specs.declared.numbers.NodeId
pub use Rattle.hd_base.specs.declared.numbers.Stamp
pub use Rattle.hd_base.specs.declared.pipeline.TheConstants
pub use Rattle.hd_base.specs.declared.roads.TheConstants as RoadsTheConstants
pub use Rattle.hd_base.specs.declared.states.ReplicaState
pub use Rattle.hd_base.specs.declared.states.Status
pub use Rattle.hd_base.specs.declared.sum_rule.TheConstants as SumRuleTheConstants
