-- What the functions' proofs cite: from the answers of the functions called to what the exported ones promise.
mod Answering
