pub mod ObservableLaws
pub mod LineLaws
pub mod TensorLaws
pub mod LimbLaws
pub mod ProductLaws
pub mod RatioLaws
