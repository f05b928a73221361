mod Asking
mod Coming
mod Idle
