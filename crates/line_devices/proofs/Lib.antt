pub mod Known
pub mod LinesLemmas
pub mod FirstLf
pub mod ReadBufferLemmas
pub mod InputLemmas
pub mod Puts
pub mod RunLemmas
pub mod LinesLaw
