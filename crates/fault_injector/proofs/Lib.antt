mod Requesting
mod Walks
