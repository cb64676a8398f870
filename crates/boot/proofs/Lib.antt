pub mod Fresh
pub mod Rising
pub mod Loading
