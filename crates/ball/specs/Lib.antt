pub mod Balls
