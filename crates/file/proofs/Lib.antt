-- What the functions' proofs cite: what a block says of the file, the list of the blocks, what the test of the unused words looks at, what
-- the buffer holds on the way, and which answer is then right.
mod Blocks
mod Roads
mod Zeros
mod Filling
mod Copying
mod Answering
