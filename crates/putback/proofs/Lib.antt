pub mod PutBacks
