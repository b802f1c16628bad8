mod Cuts
mod Definitions
mod Laws
mod Parts
mod Put
mod Runs
mod Scan
mod Whole
