mod Puts
mod Lengths
mod WholeFile
