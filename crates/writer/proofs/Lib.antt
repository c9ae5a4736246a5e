-- What the functions' proofs cite: what the byte buffer holds on the way, and which answer is then right.
mod Putting
mod Answering
