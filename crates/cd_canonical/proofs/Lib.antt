mod Read
mod Promised
