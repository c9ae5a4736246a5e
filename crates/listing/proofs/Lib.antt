-- What the functions' proofs cite: the digits of a number, the parts of an input, and its edit lines.
mod Numbers
mod Inputs
mod Entries
mod Editing
