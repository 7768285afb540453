pub mod WithOverlay
