pub mod State
pub mod Tests
pub mod StartLaws
pub mod Effects
pub mod EffectLaws
pub mod DeactivateLaws
pub mod Machine
pub mod MachineLaws
