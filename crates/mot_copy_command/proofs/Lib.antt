mod Lifts
mod Moments
mod Steps
