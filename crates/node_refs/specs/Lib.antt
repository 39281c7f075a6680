pub mod NodeRefs
