mod Walking
mod Conditions
