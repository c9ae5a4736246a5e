-- What the functions' proofs cite: lines written word by word, and added tokens counted.
mod Putting
mod Counting
