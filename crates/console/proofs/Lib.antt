mod Going
mod Taking
