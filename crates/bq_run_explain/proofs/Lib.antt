-- `Explained`: the tables of numbers against the faults and errors.
mod Explained
