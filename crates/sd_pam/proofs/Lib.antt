mod Renewed
mod Parts
