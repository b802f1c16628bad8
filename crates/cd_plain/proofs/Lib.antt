mod AfterTurn
mod Due
mod Giving
mod Greeting
mod Opening
mod Places
mod Reading
