mod InOrder
mod Standing
