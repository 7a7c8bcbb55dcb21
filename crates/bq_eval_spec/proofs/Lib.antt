pub mod Cases
pub mod FrameBinding
pub mod EnvironmentBinding
